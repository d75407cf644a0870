use Rattle.std.proofs.Common.{◌≡◌, length, map, take}
use Rattle.fmp_interned.specs.Tables.{Holds}
use Rattle.fmp_interned.proofs.interned.put_all.Given as goal

abbrev pub invariant-loop-at : goal.invariant-loop-at
invariant-loop-at g l = record {
  holds : Holds l.slots.items (take l.at (map g.V.Value.hashed l.values));
  long : length l.slots.items ≡ length l.fn.slots.items;
}
