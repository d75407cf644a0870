use Rattle.std.proofs.Common.{◌≡◌, drop}
use Rattle.fmp_search_pattern.specs.Items.{has_part}
use Rattle.fmp_search_pattern.specs.Matching.{any}
use Rattle.fmp_search_pattern.specs.Questions as spec
use Rattle.fmp_search_pattern.proofs.matching.has_moment.Given as goal

abbrev pub invariant-loop-part : goal.invariant-loop-part
invariant-loop-part g l = let s = g.S.Sight.sight l.event in any (has_part s) (drop l.part-index l.part-items) ≡ spec.has_moment s l.fn.moment
