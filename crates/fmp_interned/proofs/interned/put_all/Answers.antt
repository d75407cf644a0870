use Rattle.std.proofs.Common.{◌≡◌, ◌∙◌, ◌<◌, ℕ, List, length, get_or, map, take, ap, sym, arith}
use Rattle.std.proofs.lemmas.List.{get_or-map, length-map, length-take}
use Rattle.fmp_interned.specs.Tables.{free_in, Holds}
use Rattle.fmp_interned.proofs.Tables.{holds_next, slots_stay}
use Rattle.fmp_interned.proofs.interned.put_all.Goals as goal

-- where a table has the numbers of fewer hashes than it has slots, one is free
some_free : (table hashes : List ℕ) (at : ℕ) → at < length hashes → length hashes < length table → Holds table (take at hashes) → 0 < free_in table
some_free table hashes at lt room holds =
    let free = holds.free in
    let long = length-take at hashes in
    omega (arith, free, long, lt, room)

pub loop-at-preserved : goal.loop-at-preserved
loop-at-preserved g c =
    let inv = c.loop-at.invariant in
    let values = c.args.values.now in
    let hashes = map g.V.Value.hashed values in
    let count = length-map values g.V.Value.hashed in
    let at = c.loop-at-test.true in
    let room = c.requires.room in
    let long = inv.long in
    let put = c.put.ensures (some_free c.loop-at.slots.items hashes c.loop-at.at (omega (arith, at, count)) (omega (arith, room, long, count)) inv.holds) in
    let hash = c.hash.ensures in
    let is : c.hash.result ≡ get_or hashes c.loop-at.at 0 = hash ∙ ap g.V.Value.hashed c.index-values-at.is ∙ sym (get_or-map g.V.Value.hashed values c.loop-at.at _ 0 at) in
    record {
      holds = holds_next c.loop-at.slots.items c.put.new.table.items hashes c.loop-at.at c.hash.result (omega (arith, at, count)) is inv.holds put;
      long = slots_stay c.loop-at.slots.items c.put.new.table.items c.hash.result _ put ∙ inv.long;
    }
