use Rattle.std.proofs.Common.{◌≡◌, ◌++◌, drop, map}
use Rattle.fmp_search_question.specs.Resolved.{resolved_step}
use Rattle.fmp_search_question.proofs.resolving.resolved.Given as goal

-- those so far, and those that are left
abbrev pub invariant-loop-step : goal.invariant-loop-step
invariant-loop-step l = l.steps.items ++ map (resolved_step l.fn.names) (drop l.step-index l.step-items) ≡ map (resolved_step l.fn.names) l.fn.question
