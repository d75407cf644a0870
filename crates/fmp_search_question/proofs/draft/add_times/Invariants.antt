use Rattle.std.proofs.Common.{◌≡◌, ◌++◌, ◌-◌}
use Rattle.std.specs.Prelude.{replicate}
use Rattle.fmp_search_question.proofs.draft.add_times.Given as goal

abbrev pub invariant-loop : goal.invariant-loop
invariant-loop l = l.steps.items ++ replicate (l.fn.times - l.counter) l.fn.step ≡ l.fn.steps.items ++ replicate l.fn.times l.fn.step
