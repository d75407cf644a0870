use Rattle.std.proofs.Common.{◌+◌, ◌<◌, ◌^◌, List, length, map, subst, sym, arith}
use Rattle.fmp_interned.specs.Tables.{Holds}
use Rattle.fmp_interned.specs.Values.{IsNew}
use Rattle.fmp_interned.proofs.Values.{kept_more}
use Rattle.fmp_interned.proofs.interned.Interned.add.Goals as goal

pub invariant_of-self-2 : goal.invariant_of-self-2
invariant_of-self-2 g c =
    let V = g.row.V.Denot in
    let hashed = g.V.Value.hashed in
    let s = c.self.inside in
    let v = c.args.value.now in
    let slots = c.make_room.new.slots.items in
    let room = c.in_ok-make_room.ensures.room in
    let long = s.values.ok.0 in
    let count = c.len-number.ensures in
    let values = c.deref.ensures.value in
    let holds = subst (λ (vs : List V). Holds slots (map hashed vs)) values c.make_room.ensures.holds in
    let few = subst (λ (vs : List V). length vs + 1 < 2 ^ 32) values room.1 in
    let new = subst (λ (vs : List V). IsNew vs v) (sym {A = List V} c.self.view_is) c.requires in
    kept_more hashed s.values.items c.push_another.new.values.items slots c.put.new.table.items v c.hash.result _ few holds c.self.invariant.distinct new c.hash.ensures (omega (arith, count, long))
    c.in_ok-push_another.ensures.added (c.put.ensures room.0)
