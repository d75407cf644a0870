use Rattle.std.proofs.Common.{◌≡◌, ◌∙◌, Global, Vec, ℕ, ap, arith}
use Rattle.fmp_interned.specs.Tables.{free_in, tried}
use Rattle.fmp_interned.proofs.Tables.{all_tried, some_slots}
use Rattle.fmp_interned.proofs.table.put.Goals as goal

pub returns : goal.returns
returns c = λ free.
    let inv = c.loop-turn.invariant in
    let table = c.args.table.now.items in
    let past = c.loop-turn-test.false in
    let slots = c.len-slots.ensures in
    let long = c.args.table.now.ok.0 in
    let none : free_in table ≡ 0 = all_tried table c.args.hash (some_slots table free)
    (λ t lt z. inv.1 t (omega (arith, lt, past, slots, long)) (ap (λ (v : Vec ℕ Global). tried v.items c.args.hash t) inv.0 ∙ z)) in
    absurd (omega (arith, free, none))
