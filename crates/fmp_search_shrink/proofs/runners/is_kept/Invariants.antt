use Rattle.std.proofs.Common.{◌≤◌, ◌-◌, drop, length}
use Rattle.std.specs.Prelude.{◌↔◌, IfSome, IsTrue, slice_get}
use Rattle.fmp_search_shrink.specs.Runners.{IsPartOf, calls_by, is_same}
use Rattle.fmp_search_shrink.proofs.runners.is_kept.Given as goal

-- what is left of the one list has to be looked for in what is left of the other
abbrev pub invariant-loop-at : goal.invariant-loop-at
invariant-loop-at l = record {
  within : l.at ≤ length l.made;
  own : IfSome (slice_get l.made l.at) (λ m. IsTrue (is_same l.runner m.runner));
  left : IsPartOf (calls_by l.runner l.made) (calls_by l.runner l.given) ↔ IsPartOf (calls_by l.runner (drop l.at l.made)) (calls_by l.runner (drop l.passed l.given));
}

abbrev pub decreases-loop-at : goal.decreases-loop-at
decreases-loop-at l = length l.given - l.passed
