use Rattle.std.proofs.Common.{◌≡◌, take}
use Rattle.fmp_search_pattern.proofs.question.Question.first.Given as goal

abbrev pub invariant-loop-step : goal.invariant-loop-step
invariant-loop-step l = l.steps.items ≡ take l.step-index l.first
