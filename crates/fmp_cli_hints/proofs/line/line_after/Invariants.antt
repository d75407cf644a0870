use Rattle.std.proofs.Common.{◌≡◌, ◌-◌}
use Rattle.fmp_cli_hints.specs.Contexts.{line_after}
use Rattle.fmp_cli_hints.proofs.line.line_after.Given as goal

abbrev pub invariant-loop-step : goal.invariant-loop-step
invariant-loop-step l = line_after (l.count - l._step) l.rest ≡ line_after l.fn.count l.fn.text
