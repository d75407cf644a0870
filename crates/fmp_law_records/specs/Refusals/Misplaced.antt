-- Where a call may be made, by its line and the records before it.
use Rattle.std.specs.Prelude.{◌≡◌, ℤ, pos, Bool, true, false, not, ◌&&◌, ◌||◌, ◌==◌, Option, Some, if◌then◌else◌, is_some}
use Rattle.fmp_codes.specs.declared.calls.Call.{Call}
use Rattle.fmp_codes.specs.declared.calls.Call.TheVariants as call
use Rattle.fmp_codes.specs.declared.calls.TaskCall.TheVariants as task
use Rattle.fmp_codes.specs.declared.calls.SyncCall.TheVariants as sync
use Rattle.fmp_codes.specs.declared.calls.BufferCall.TheVariants as buffer
use Rattle.fmp_codes.specs.declared.calls.TimeCall.TheVariants as time
use Rattle.fmp_codes.specs.declared.calls.SystemCall.TheVariants as system
use Rattle.fmp_codes.specs.declared.calls.SpinCall.TheVariants as spin
use Rattle.fmp_codes.specs.declared.codes.Code.TheVariants as code
use Rattle.fmp_codes.specs.declared.records.Answer.{Answer}
use Rattle.fmp_codes.specs.declared.records.Answer.TheVariants as answer
use Rattle.fmp_codes.specs.declared.records.Event.{Event}
use Rattle.fmp_codes.specs.declared.records.Event.TheVariants as event
use Rattle.fmp_codes.specs.declared.records.Record.{Record}
use Rattle.fmp_codes.specs.declared.records.Runner.{Runner}
use Rattle.fmp_codes.specs.declared.records.Runner.TheVariants as runner
use Rattle.fmp_law_records.specs.Due.{is_handler}
use Rattle.fmp_law_records.specs.Requests.{ProcessorReported, is_held_reported}

-- Who may make a call.

-- calls that only a handler may make
abbrev pub is_for_handlers : Call → Bool
is_for_handlers (call.Task (task.IactTsk id)) = true
is_for_handlers (call.Task (task.ImactTsk id to)) = true
is_for_handlers (call.Task (task.IwupTsk id)) = true
is_for_handlers (call.Task (task.IrelWai id)) = true
is_for_handlers (call.Sync (sync.IsigSem id)) = true
is_for_handlers (call.Sync (sync.IsetFlg id bits)) = true
is_for_handlers (call.Buffer (buffer.IpsndDtq id value)) = true
is_for_handlers (call.Buffer (buffer.IfsndDtq id value)) = true
is_for_handlers (call.Time (time.IstaAlm id after)) = true
is_for_handlers (call.Time (time.ImstaAlm id after to)) = true
is_for_handlers (call.Time (time.IstpAlm id)) = true
is_for_handlers (call.System (system.IrotRdq n)) = true
is_for_handlers (call.System (system.ImrotRdq n on)) = true
is_for_handlers (call.System system.IgetTid) = true
is_for_handlers (call.System system.IgetPid) = true
is_for_handlers (call.System system.IlocCpu) = true
is_for_handlers (call.System system.IunlCpu) = true
is_for_handlers (call.Spin (spin.IlocSpn id)) = true
is_for_handlers (call.Spin (spin.ItrySpn id)) = true
is_for_handlers (call.Spin (spin.IunlSpn id)) = true
is_for_handlers call.RetHdr = true
is_for_handlers other = false

-- calls that both handlers and tasks may make. All other calls are for tasks alone
abbrev pub is_for_all : Call → Bool
is_for_all (call.System system.SnsCtx) = true
is_for_all (call.System system.SnsLoc) = true
is_for_all (call.System system.SnsDsp) = true
is_for_all (call.System system.SnsDpn) = true
is_for_all other = false

-- the caller is a handler and the call is for tasks alone, or the other way round
abbrev pub is_not_for : Option Runner → Call → Bool
is_not_for r c = if is_for_all c then false else if is_for_handlers c then not (is_handler r) else is_handler r

-- In which state of its processor.

-- calls that may be made while the processor is CPU-locked
abbrev pub is_for_locked : Call → Bool
is_for_locked (call.Task task.ExtTsk) = true
is_for_locked (call.System system.LocCpu) = true
is_for_locked (call.System system.IlocCpu) = true
is_for_locked (call.System system.UnlCpu) = true
is_for_locked (call.System system.IunlCpu) = true
is_for_locked (call.System system.SnsCtx) = true
is_for_locked (call.System system.SnsLoc) = true
is_for_locked (call.System system.SnsDsp) = true
is_for_locked (call.System system.SnsDpn) = true
is_for_locked (call.Spin (spin.UnlSpn id)) = true
is_for_locked (call.Spin (spin.IunlSpn id)) = true
is_for_locked call.RetHdr = true
is_for_locked other = false

-- calls that can make their caller wait, also where their timeout is 0
abbrev pub may_wait : Call → Bool
may_wait (call.Task task.SlpTsk) = true
may_wait (call.Task (task.TslpTsk timeout)) = true
may_wait (call.Task (task.DlyTsk time)) = true
may_wait (call.Sync (sync.WaiSem id)) = true
may_wait (call.Sync (sync.TwaiSem id timeout)) = true
may_wait (call.Sync (sync.WaiFlg id bits mode)) = true
may_wait (call.Sync (sync.TwaiFlg id bits mode timeout)) = true
may_wait (call.Buffer (buffer.SndDtq id value)) = true
may_wait (call.Buffer (buffer.TsndDtq id value timeout)) = true
may_wait (call.Buffer (buffer.RcvDtq id)) = true
may_wait (call.Buffer (buffer.TrcvDtq id timeout)) = true
may_wait (call.Buffer (buffer.GetMpf id)) = true
may_wait (call.Buffer (buffer.TgetMpf id timeout)) = true
may_wait other = false

-- an argument names the task that makes the call: it is 0 or its number
abbrev pub is_caller_named : Option Runner → ℤ → Bool
is_caller_named (Some (runner.Task t)) (pos n) = n == 0 || n == t.number
is_caller_named r id = false

-- a call suspends its caller, or takes it to another processor
abbrev pub moves_caller : Option Runner → Call → Bool
moves_caller r (call.Task (task.SusTsk id)) = is_caller_named r id
moves_caller r (call.Task (task.MigTsk id to)) = is_caller_named r id
moves_caller r other = false

-- a call is misplaced: its caller may not make it, or not while the processor is CPU-locked or held, as the records say that it is
abbrev pub is_misplaced : ProcessorReported → Option Runner → Call → Bool
is_misplaced before r c = is_not_for r c || (before.locked && not (is_for_locked c)) || ((may_wait c || moves_caller r c) && is_held_reported before)

-- What is answered.

-- E_CTX
abbrev pub is_context_error : Answer → Bool
is_context_error (answer.Done code.Context value) = true
is_context_error other = false

abbrev pub is_idle : Answer → Bool
is_idle answer.Idle = true
is_idle other = false

-- where its processor was so before a call, the call answers idle just where nobody makes it, and E_CTX just where it is misplaced
pub record IsPlaced (before : ProcessorReported) (r : Option Runner) (a : Answer) (c : Call) : Type 0 where
  pub idle : is_idle a ≡ not (is_some r)
  pub misplaced : is_context_error a ≡ (is_some r && is_misplaced before r c)

abbrev pub EventIsPlaced : ProcessorReported → Option Runner → Answer → Event → Type 0
EventIsPlaced before r a (event.Call p c) = IsPlaced before r a c
EventIsPlaced before r a other = Unit {0}

abbrev pub CallIsPlaced : ProcessorReported → Record → Type 0
CallIsPlaced before r = EventIsPlaced before r.runner r.answer r.event
