-- The positions of all tasks, and of the handlers on all processors, as they are kept.
use Rattle.std.specs.Prelude.{ℕ, ◌-◌, not, ◌&&◌, List, [], ◌∷◌, Option, None, Some, if◌then◌else◌, slice_index, slice_set}
use Rattle.fmp_codes.specs.Records.{processor_of, is_gone, is_taken, is_call}
use Rattle.fmp_codes.specs.declared.numbers.Task.{Task}
use Rattle.fmp_codes.specs.declared.records.Event.{Event}
use Rattle.fmp_codes.specs.declared.records.Event.TheVariants as event
use Rattle.fmp_codes.specs.declared.records.Answer.{Answer}
use Rattle.fmp_codes.specs.declared.records.Record.{Record}
use Rattle.fmp_codes.specs.declared.records.Release.{Release}
use Rattle.fmp_codes.specs.declared.records.Runner.{Runner}
use Rattle.fmp_codes.specs.declared.records.Runner.TheVariants as runner
use Rattle.fmp_text_scripts.specs.declared.ways.Way.{Way}
use Rattle.fmp_text_scripts.specs.Scripts.{Steps}
use Rattle.fmp_text_scripts.specs.Ways.{onward}
use Rattle.fmp_setup.specs.Setup.{Setup}
use Rattle.fmp_smp_histories.specs.Positions.{called, is_handler, is_spin, is_return, terminated, ways_of_runner, ways_of_task}

-- the positions of all tasks after a release, and after several
abbrev pub released_task : Setup → List Steps → List ℕ → Release → List ℕ
released_task c scripts ps r =
    let place = r.task.number - 1 in
    slice_set ps place (onward (ways_of_task c scripts r.task.number) (slice_index ps place) r.code r.value)

abbrev pub released_tasks : Setup → List Steps → List ℕ → List Release → List ℕ
released_tasks c scripts ps [] = ps
released_tasks c scripts ps (r ∷ rs) = released_tasks c scripts (released_task c scripts ps r) rs

-- the positions of all tasks after an event, but for a task that it terminated
abbrev pub called_tasks : Setup → List Steps → List ℕ → Option Runner → Event → Answer → List ℕ
called_tasks c scripts ps (Some (runner.Task t)) e a =
    let place = t.number - 1 in
    slice_set ps place (if is_gone a then 0 else called (ways_of_task c scripts t.number) (is_call e && not (is_spin a)) a (slice_index ps place))
called_tasks c scripts ps other e a = ps

-- the positions with that of a task, if there is one, at the beginning
abbrev pub renewed : List ℕ → Option Task → List ℕ
renewed ps None = ps
renewed ps (Some t) = slice_set ps (t.number - 1) 0

-- the positions of all tasks after a record
abbrev pub moved_tasks : Setup → List Steps → List ℕ → Record → List ℕ
moved_tasks c scripts ps r =
    renewed (called_tasks c scripts (released_tasks c scripts ps r.releases) r.runner r.event r.answer) (terminated r.event r.answer)

-- the position of a handler on a processor with this position and these ways, after an event there
abbrev pub handler_moved : List Way → Option Runner → Event → Answer → ℕ → ℕ
handler_moved ways by (event.Call p c) a at = if is_return c then 0 else called ways (is_handler by && not (is_spin a)) a at
handler_moved ways by (event.Tick p) a at = if is_taken a then 0 else at
handler_moved ways by (event.Ipi p) a at = at

-- the positions of the handlers on all processors after a record
abbrev pub moved_handlers : Setup → List Steps → List ℕ → Record → List ℕ
moved_handlers c scripts ps r =
    let place = (processor_of r.event).number - 1 in
    slice_set ps place (handler_moved (ways_of_runner c scripts r.runner) r.runner r.event r.answer (slice_index ps place))
