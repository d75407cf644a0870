use Rattle.std.proofs.Common.{◌≡◌, ℕ, ◌<◌, slice_index_or}
use Rattle.fmp_text_scripts.specs.declared.script.Script.{Script}
use Rattle.fmp_text_scripts.specs.Views.{steps_of}
use Rattle.fmp_text_scripts.proofs.script.are_same.Given as goal

abbrev pub invariant-loop-at : goal.invariant-loop-at
invariant-loop-at l = (k : ℕ) (d e : Script) → k < l.at → steps_of (slice_index_or l.one k d) ≡ steps_of (slice_index_or l.other k e)
