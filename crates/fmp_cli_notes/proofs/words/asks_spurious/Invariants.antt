use Rattle.std.proofs.Common.{◌≡◌, false, take}
use Rattle.std.specs.List.{list_any}
use Rattle.fmp_cli_notes.specs.Words.{is_step_spurious}
use Rattle.fmp_cli_notes.proofs.words.asks_spurious.Given as goal

-- none of those so far has them
abbrev pub invariant-loop-step : goal.invariant-loop-step
invariant-loop-step l = list_any is_step_spurious (take l.step-index l.step-items) ≡ false
