use Rattle.std.proofs.Common.{◌≡◌, ◌++◌, take}
use Rattle.fmp_show_state.specs.States.{without_running}
use Rattle.fmp_show_state.proofs.processors.add_others.Given as goal

-- those so far
abbrev pub invariant-loop-task : goal.invariant-loop-task
invariant-loop-task l = l.others.items ≡ l.fn.others.items ++ without_running l.running (take l.task-index l.tasks)
