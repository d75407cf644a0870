use Rattle.std.proofs.Common.{◌≡◌, ℕ, ◌<◌, slice_index_or}
use Rattle.fmp_setup.specs.declared.parts.NamedClass.{NamedClass}
use Rattle.fmp_setup.proofs.equality.are_same_classes.Given as goal

abbrev pub invariant-loop-at : goal.invariant-loop-at
invariant-loop-at l =
    (k : ℕ) (d e : NamedClass) → k < l.at →
    ((slice_index_or l.one k d).class ≡ (slice_index_or l.other k e).class) × ((slice_index_or l.one k d).name.items ≡ (slice_index_or l.other k e).name.items)
