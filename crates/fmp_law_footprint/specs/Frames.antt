-- What a record says that its event may change, and what it leaves.
use Rattle.std.specs.Prelude.{◌≡◌, Bool, true, false, not, ◌&&◌, ◌||◌, Option, None, List, [], ◌∷◌, map}
use Rattle.fmp_codes.specs.declared.numbers.Task.{Task}
use Rattle.fmp_codes.specs.declared.calls.Call.TheVariants as call
use Rattle.fmp_codes.specs.declared.calls.SystemCall.TheVariants as system
use Rattle.fmp_codes.specs.declared.calls.TaskCall.TheVariants as task_call
use Rattle.fmp_codes.specs.declared.codes.Code.TheVariants as code
use Rattle.fmp_codes.specs.declared.records.Answer.{Answer}
use Rattle.fmp_codes.specs.declared.records.Answer.TheVariants as answer
use Rattle.fmp_codes.specs.declared.records.Event.{Event}
use Rattle.fmp_codes.specs.declared.records.Event.TheVariants as event
use Rattle.fmp_codes.specs.declared.records.Record.{Record}
use Rattle.fmp_codes.specs.declared.records.Release.{Release}
use Rattle.fmp_rules.specs.World.{World}

-- nothing was done but that a processor dispatches: a call was refused or found its lock taken, or nobody was there to make it, or a tick or an
-- interrupt is held back, does not count or found no request
abbrev pub is_idle : Answer → Bool
is_idle (answer.Done code.Accepted value) = false
is_idle (answer.Done other value) = true
is_idle answer.Spin = true
is_idle answer.Idle = true
is_idle answer.Held = true
is_idle answer.Nothing = true
is_idle other = false

-- the caller waits from now on
abbrev pub is_wait : Answer → Bool
is_wait answer.Wait = true
is_wait other = false

abbrev pub any : List Release → Bool
any [] = false
any (x ∷ xs) = true

abbrev pub is_on_tasks : Event → Bool
is_on_tasks (event.Call p (call.Task c)) = true
is_on_tasks other = false

-- a call on semaphores or eventflags
abbrev pub is_on_sync : Event → Bool
is_on_sync (event.Call p (call.Sync c)) = true
is_on_sync other = false

-- a call on data queues or pools
abbrev pub is_on_buffers : Event → Bool
is_on_buffers (event.Call p (call.Buffer c)) = true
is_on_buffers other = false

-- time passes, or a handler is started or stopped
abbrev pub is_on_time : Event → Bool
is_on_time (event.Call p (call.Time c)) = true
is_on_time (event.Tick p) = true
is_on_time other = false

-- a handler becomes due, or the one that is due returns
abbrev pub is_on_due : Event → Bool
is_on_due (event.Tick p) = true
is_on_due (event.Call p call.RetHdr) = true
is_on_due other = false

-- a spin lock is called for, or a task ends or a handler returns, which frees what its processor holds
abbrev pub is_on_locks : Event → Bool
is_on_locks (event.Call p (call.Spin c)) = true
is_on_locks (event.Call p (call.Task task_call.ExtTsk)) = true
is_on_locks (event.Call p call.RetHdr) = true
is_on_locks other = false

-- a call that puts a ready task last
abbrev pub is_rotation : Event → Bool
is_rotation (event.Call p (call.System (system.RotRdq n))) = true
is_rotation (event.Call p (call.System (system.IrotRdq n))) = true
is_rotation (event.Call p (call.System (system.MrotRdq n q))) = true
is_rotation (event.Call p (call.System (system.ImrotRdq n q))) = true
is_rotation other = false

-- the records of tasks may change
abbrev pub moves_tasks : Record → Bool
moves_tasks r = not (is_idle r.answer) && (is_on_tasks r.event || any r.releases || is_wait r.answer)

-- the order of tasks may
abbrev pub moves_order : Record → Bool
moves_order r = moves_tasks r || (not (is_idle r.answer) && is_rotation r.event)

-- semaphores and eventflags may
abbrev pub moves_sync : Record → Bool
moves_sync r = not (is_idle r.answer) && is_on_sync r.event

-- data queues and pools may
abbrev pub moves_buffers : Record → Bool
moves_buffers r = not (is_idle r.answer) && is_on_buffers r.event

-- time event handlers and what is left of their counts may
abbrev pub moves_time : Record → Bool
moves_time r = not (is_idle r.answer) && is_on_time r.event

-- the due handlers may
abbrev pub moves_due : Record → Bool
moves_due r = not (is_idle r.answer) && is_on_due r.event

-- who holds the spin locks may
abbrev pub moves_locks : Record → Bool
moves_locks r = not (is_idle r.answer) && is_on_locks r.event

-- what is left of the waits may
abbrev pub moves_waits : Record → Bool
moves_waits r = moves_tasks r || moves_time r

-- which task each processor runs
abbrev pub running_of : {Q : Type 0} → World Q → List (Option Task)
running_of w = map (λ p. p.running) w.processors

-- what a record leaves, from a state w to a state v
pub record Frame {Q : Type 0} (w : World Q) (r : Record) (v : World Q) : Type 0 where
  pub tasks : moves_tasks r ≡ false → v.tasks ≡ w.tasks
  pub running : moves_tasks r ≡ false → r.run_change ≡ None → running_of v ≡ running_of w
  pub due : moves_due r ≡ false → v.due ≡ w.due
  pub holders : moves_locks r ≡ false → v.holders ≡ w.holders
  pub order : moves_order r ≡ false → v.order ≡ w.order
  pub timer : moves_time r ≡ false → v.timer ≡ w.timer
  pub waits_left : moves_waits r ≡ false → v.waits_left ≡ w.waits_left
  pub semaphores : moves_sync r ≡ false → v.semaphores ≡ w.semaphores
  pub eventflags : moves_sync r ≡ false → v.eventflags ≡ w.eventflags
  pub data_queues : moves_buffers r ≡ false → v.data_queues ≡ w.data_queues
  pub contents : moves_buffers r ≡ false → v.contents ≡ w.contents
  pub pools : moves_buffers r ≡ false → v.pools ≡ w.pools
  pub cyclics : moves_time r ≡ false → v.cyclics ≡ w.cyclics
  pub cyclics_left : moves_time r ≡ false → v.cyclics_left ≡ w.cyclics_left
  pub alarms : moves_time r ≡ false → v.alarms ≡ w.alarms
  pub alarms_left : moves_time r ≡ false → v.alarms_left ≡ w.alarms_left
