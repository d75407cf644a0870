use Rattle.std.proofs.Common.{◌≡◌, take}
use Rattle.fmp_search_pattern.proofs.items.Part.copy.Given as goal

abbrev pub invariant-loop-item : goal.invariant-loop-item
invariant-loop-item l = l.items.items ≡ take l.item-index l.item-items
