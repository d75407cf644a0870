use Rattle.std.proofs.Common.{◌≡◌, drop}
use Rattle.fmp_search_pattern.specs.Matching.{any}
use Rattle.fmp_search_pattern.proofs.matching.has_fact.Given as goal

abbrev pub invariant-loop-one : goal.invariant-loop-one
invariant-loop-one g l = let s = g.S.Sight.sight l.event in any s.is_so (drop l.one-index l.asked) ≡ any s.is_so l.fn.asked
