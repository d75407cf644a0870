use Rattle.std.proofs.Common.{◌≡◌, drop}
use Rattle.fmp_cli_notes.specs.Limits.{first_passed}
use Rattle.fmp_cli_notes.proofs.limits.exceeded_by.Given as goal

-- of those that are left
abbrev pub invariant-loop-at : goal.invariant-loop-at
invariant-loop-at l = first_passed l.config l.thing (drop l.at l.facts) ≡ first_passed l.config l.thing l.facts
