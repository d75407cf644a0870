use Rattle.std.proofs.Common.{◌≡◌, ℕ, ◌<◌, slice_index_or}
use Rattle.fmp_codes.specs.declared.calls.Call.{Call}
use Rattle.fmp_text_scripts.proofs.equality.are_same_steps.Given as goal

abbrev pub invariant-loop-at : goal.invariant-loop-at
invariant-loop-at l = (k : ℕ) (d e : Call) → k < l.at → slice_index_or l.one k d ≡ slice_index_or l.other k e
