use Rattle.std.proofs.Common.{◌≡◌, drop}
use Rattle.fmp_search_pattern.specs.Items as spec
use Rattle.fmp_search_pattern.specs.Matching.{every}
use Rattle.fmp_search_pattern.proofs.matching.has_part.Given as goal

abbrev pub invariant-loop-item : goal.invariant-loop-item
invariant-loop-item g l = let s = g.S.Sight.sight l.event in every (spec.has_item s) (drop l.item-index l.item-items) ≡ spec.has_part s l.fn.part
