-- What a call answers that is not refused, by the configuration and the records before it.
use Rattle.std.specs.Prelude.{◌≡◌, ℤ, pos, Bool, ◌||◌, nat_lt, Option, None, Some, List, if◌then◌else◌, is_some, unwrap_or, not}
use Rattle.std.specs.List.{position, range_with_len}
use Rattle.fmp_codes.specs.Numbers.{task_number}
use Rattle.fmp_codes.specs.declared.numbers.Proc.{Proc}
use Rattle.fmp_codes.specs.declared.numbers.Task.{Task}
use Rattle.fmp_codes.specs.declared.numbers.Object.{Object}
use Rattle.fmp_codes.specs.declared.calls.Call.{Call}
use Rattle.fmp_codes.specs.declared.calls.Call.TheVariants as call
use Rattle.fmp_codes.specs.declared.calls.TaskCall.{TaskCall}
use Rattle.fmp_codes.specs.declared.calls.TaskCall.TheVariants as task
use Rattle.fmp_codes.specs.declared.calls.SyncCall.{SyncCall}
use Rattle.fmp_codes.specs.declared.calls.SyncCall.TheVariants as sync
use Rattle.fmp_codes.specs.declared.calls.BufferCall.{BufferCall}
use Rattle.fmp_codes.specs.declared.calls.BufferCall.TheVariants as buffer
use Rattle.fmp_codes.specs.declared.calls.SystemCall.{SystemCall}
use Rattle.fmp_codes.specs.declared.calls.SystemCall.TheVariants as system
use Rattle.fmp_codes.specs.declared.calls.SpinCall.{SpinCall}
use Rattle.fmp_codes.specs.declared.calls.SpinCall.TheVariants as spin
use Rattle.fmp_codes.specs.declared.codes.Code.{Code}
use Rattle.fmp_codes.specs.declared.codes.Code.TheVariants as code
use Rattle.fmp_codes.specs.declared.records.Answer.{Answer}
use Rattle.fmp_codes.specs.declared.records.Answer.TheVariants as answer
use Rattle.fmp_codes.specs.declared.records.Event.{Event}
use Rattle.fmp_codes.specs.declared.records.Event.TheVariants as event
use Rattle.fmp_codes.specs.declared.records.Record.{Record}
use Rattle.fmp_codes.specs.declared.records.Runner.{Runner}
use Rattle.fmp_setup.specs.Setup.{Setup}
use Rattle.fmp_law_balance.specs.Words.{is_clock}
use Rattle.fmp_law_balance.specs.Accepted.{accepted_value}
use Rattle.fmp_law_records.specs.Lives.{queued_count}
use Rattle.fmp_law_records.specs.Flags.{number_if}
use Rattle.fmp_law_records.specs.Due.{is_handler}
use Rattle.fmp_law_records.specs.Requests.{ProcessorReported, some_due, is_held_reported, report_processor}
use Rattle.fmp_law_records.specs.Refusals.Callers.{report_running}
use Rattle.fmp_law_records.specs.Refusals.Meanings.{task_meant, object_of}
use Rattle.fmp_law_records.specs.Refusals.Arguments.{pool_setup}
use Rattle.fmp_law_records.specs.Refusals.Found.{FoundReported, found_reported, has_bits, takes_value, gives_value, has_block}
use Rattle.fmp_law_records.specs.Refusals.Refusals.{first_of, row_reported}

abbrev pub accepted : Answer
accepted = answer.Done code.Accepted None

abbrev pub gives : ℤ → Answer
gives v = answer.Done code.Accepted (Some v)

-- the call is done at once, or else its caller waits
abbrev pub or_waits : Bool → Answer → Answer
or_waits at_once a = if at_once then a else answer.Wait

module _ (c : Setup) (x : FoundReported) (here : ProcessorReported) (running : Option Task) (p : Proc) (r : Option Runner) (received : Option ℤ) where
  -- the least block of a pool that is not out
  abbrev pub least_block : Object → ℤ
  least_block m = pos (unwrap_or (position (λ b. not (x.out m b)) (range_with_len 0 (pool_setup c m).blocks)) 0)

  abbrev pub task_outcome : TaskCall → Answer
  task_outcome (task.CanAct id) = gives (pos (queued_count (x.task (task_meant r id)).life.queued))
  task_outcome task.ExtTsk = answer.Gone
  task_outcome (task.GetPri id) = gives (pos (x.priority (task_meant r id)).number)
  task_outcome task.SlpTsk = or_waits (nat_lt 0 (x.wakeups (task_meant r (pos 0)))) accepted
  task_outcome (task.TslpTsk timeout) = or_waits (nat_lt 0 (x.wakeups (task_meant r (pos 0)))) accepted
  task_outcome (task.CanWup id) = gives (pos (x.wakeups (task_meant r id)))
  task_outcome (task.DlyTsk after) = answer.Wait
  task_outcome other = accepted

  abbrev pub sync_outcome : SyncCall → Answer
  sync_outcome (sync.WaiSem id) = or_waits (nat_lt 0 (x.units (object_of id))) accepted
  sync_outcome (sync.TwaiSem id timeout) = or_waits (nat_lt 0 (x.units (object_of id))) accepted
  sync_outcome (sync.WaiFlg id bits mode) = or_waits (has_bits c x (object_of id) bits mode) (gives (pos (x.pattern (object_of id))))
  sync_outcome (sync.TwaiFlg id bits mode timeout) = or_waits (has_bits c x (object_of id) bits mode) (gives (pos (x.pattern (object_of id))))
  sync_outcome (sync.PolFlg id bits mode) = gives (pos (x.pattern (object_of id)))
  sync_outcome other = accepted

  abbrev pub buffer_outcome : BufferCall → Answer
  buffer_outcome (buffer.SndDtq id value) = or_waits (takes_value c x (object_of id)) accepted
  buffer_outcome (buffer.TsndDtq id value timeout) = or_waits (takes_value c x (object_of id)) accepted
  buffer_outcome (buffer.RcvDtq id) = or_waits (gives_value c x (object_of id)) (answer.Done code.Accepted received)
  buffer_outcome (buffer.TrcvDtq id timeout) = or_waits (gives_value c x (object_of id)) (answer.Done code.Accepted received)
  buffer_outcome (buffer.PrcvDtq id) = answer.Done code.Accepted received
  buffer_outcome (buffer.GetMpf id) = or_waits (has_block c x (object_of id)) (gives (least_block (object_of id)))
  buffer_outcome (buffer.TgetMpf id timeout) = or_waits (has_block c x (object_of id)) (gives (least_block (object_of id)))
  buffer_outcome (buffer.PgetMpf id) = gives (least_block (object_of id))
  buffer_outcome other = accepted

  abbrev pub system_outcome : SystemCall → Answer
  system_outcome system.GetTid = gives (pos (task_number running))
  system_outcome system.IgetTid = gives (pos (task_number running))
  system_outcome system.GetPid = gives (pos p.number)
  system_outcome system.IgetPid = gives (pos p.number)
  system_outcome system.SnsCtx = gives (number_if (is_handler r))
  system_outcome system.SnsLoc = gives (number_if here.locked)
  system_outcome system.SnsDsp = gives (number_if here.disabled)
  system_outcome system.SnsDpn = gives (number_if (is_held_reported here))
  system_outcome other = accepted

  -- who finds a lock taken tries again
  abbrev pub spin_outcome : SpinCall → Answer
  spin_outcome (spin.LocSpn id) = if is_some (x.holder (object_of id)) then answer.Spin else accepted
  spin_outcome (spin.IlocSpn id) = if is_some (x.holder (object_of id)) then answer.Spin else accepted
  spin_outcome other = accepted

  abbrev pub outcome_reported : Call → Answer
  outcome_reported (call.Task y) = task_outcome y
  outcome_reported (call.Sync y) = sync_outcome y
  outcome_reported (call.Buffer y) = buffer_outcome y
  outcome_reported (call.System y) = system_outcome y
  outcome_reported (call.Spin y) = spin_outcome y
  outcome_reported other = accepted

-- the answer of a call that is refused with a code, or is not
abbrev pub refused_or : Option Code → Answer → Answer
refused_or None a = a
refused_or (Some z) a = answer.Done z None

-- What an event answers where these are the records before it. A call answers the code of the first error of its row, or else what is told
-- above. A tick that counts is held back where its processor is CPU-locked or a handler is due there, and an interrupt where the
-- processor is held.
abbrev pub answer_reported : Setup → List Record → Option Runner → Option ℤ → Event → Answer
answer_reported c records r received (event.Call p y) =
    if is_some r
    then refused_or (first_of (row_reported c records p r y)) (outcome_reported c (found_reported c records) (report_processor c p records) (report_running c p records) p r received y)
    else answer.Idle
answer_reported c records r received (event.Tick p) =
    let x : ProcessorReported = report_processor c p records in
    if is_clock c.timer p then (if x.locked || some_due x.handlers.due then answer.Held else answer.Taken) else answer.Nothing
answer_reported c records r received (event.Ipi p) =
    let x : ProcessorReported = report_processor c p records in if is_held_reported x then answer.Held else if x.pending then answer.Taken else answer.Nothing

-- an event answers this, but for the value that a call receives from a data queue, which the balance of its values tells
abbrev pub IsAnswerReported : Setup → List Record → Record → Type 0
IsAnswerReported c records r = r.answer ≡ answer_reported c records r.runner (accepted_value r.answer) r.event
