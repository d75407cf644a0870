use Rattle.std.proofs.Common.{◌≡◌, ℕ, ◌<◌, slice_index_or}
use Rattle.fmp_names.specs.Names.{texts}
use Rattle.fmp_names.proofs.names.are_same_sets.Given as goal

abbrev pub invariant-loop-place : goal.invariant-loop-place
invariant-loop-place l = (k : ℕ) (d e : _) → k < l.place → texts (slice_index_or l.one k d) ≡ texts (slice_index_or l.other k e)
