-- What the state of a task is called.
use Rattle.std.specs.Prelude.{◌==◌, Bool, true, false, Option, None, Some, if◌then◌else◌}
use Rattle.fmp_codes.specs.declared.numbers.Task.{Task}
use Rattle.fmp_rules.specs.declared.machine.TaskRecord.{TaskRecord}
use Rattle.fmp_rules.specs.declared.machine.Wait.{Wait}
use Rattle.fmp_rules.specs.declared.states.TaskState.{TaskState}
use Rattle.fmp_rules.specs.declared.states.TaskState.TheVariants.{Dormant, Ready, Running, Waiting, Suspended, WaitingSuspended}

-- a task that could run does so, or is ready
abbrev pub ready_state : Task → Option Task → TaskState
ready_state t None = Ready
ready_state t (Some u) = if u.number == t.number then Running else Ready

-- the state of an active task with this wait, if it has one, that is suspended or not
abbrev pub active_state : Task → Option Wait → Bool → Option Task → TaskState
active_state t (Some x) true running = WaitingSuspended
active_state t (Some x) false running = Waiting
active_state t None true running = Suspended
active_state t None false running = ready_state t running

-- the state of a task, by what runs on its processor
abbrev pub task_state : Task → TaskRecord → Option Task → TaskState
task_state t x running = if x.active then active_state t x.wait x.suspended running else Dormant
