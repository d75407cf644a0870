-- What a call asks for that can make its caller wait.
use Rattle.std.specs.Prelude.{ℕ, ℤ, Option, None, Some, option_map}
use Rattle.fmp_codes.specs.Numbers.{as_object}
use Rattle.fmp_codes.specs.declared.numbers.Proc.{Proc}
use Rattle.fmp_codes.specs.declared.numbers.Object.{Object}
use Rattle.fmp_codes.specs.declared.calls.Call.{Call}
use Rattle.fmp_codes.specs.declared.calls.Call.TheVariants as call
use Rattle.fmp_codes.specs.declared.calls.TaskCall.TheVariants as task
use Rattle.fmp_codes.specs.declared.calls.SyncCall.TheVariants as sync
use Rattle.fmp_codes.specs.declared.calls.BufferCall.TheVariants as buffer
use Rattle.fmp_codes.specs.declared.records.Event.{Event}
use Rattle.fmp_codes.specs.declared.records.Event.TheVariants as event
use Rattle.fmp_rules.specs.declared.machine.Wait.{Wait}
use Rattle.fmp_rules.specs.declared.machine.Wait.TheVariants as wait
use Rattle.fmp_law_balance.specs.Words.{one_up_to}
use Rattle.fmp_law_balance.specs.Waits.Meanings.{ticks_in}

-- a wait of a task that began and is not ended
pub record OpenWait : Type 0 where
  pub wait : Wait  -- what for
  pub left : Option ℕ  -- the ticks left, or none where it may last for ever
  pub assigned : Proc  -- the processor to which the task is assigned

-- a wait of an object, which an argument names by its number, with so many ticks, or for ever, of a task on p
abbrev pub asked_of : (Object → Wait) → ℤ → Option ℕ → Proc → Option OpenWait
asked_of waits id left p = option_map (λ n. record { wait = waits (as_object n); left = left; assigned = p }) (one_up_to 32 id)

-- the wait that begins where this call from p makes its caller wait
abbrev pub asked : Proc → Call → Option OpenWait
asked p (call.Task task.SlpTsk) = Some (record { wait = wait.Sleep; left = None; assigned = p })
asked p (call.Task (task.TslpTsk timeout)) = Some (record { wait = wait.Sleep; left = ticks_in timeout; assigned = p })
asked p (call.Task (task.DlyTsk time)) = Some (record { wait = wait.Delay; left = ticks_in time; assigned = p })
asked p (call.Sync (sync.WaiSem id)) = asked_of wait.Semaphore id None p
asked p (call.Sync (sync.TwaiSem id timeout)) = asked_of wait.Semaphore id (ticks_in timeout) p
asked p (call.Sync (sync.WaiFlg id pattern mode)) = asked_of (λ f. wait.Eventflag f pattern mode) id None p
asked p (call.Sync (sync.TwaiFlg id pattern mode timeout)) = asked_of (λ f. wait.Eventflag f pattern mode) id (ticks_in timeout) p
asked p (call.Buffer (buffer.SndDtq id value)) = asked_of (λ d. wait.Send d value) id None p
asked p (call.Buffer (buffer.TsndDtq id value timeout)) = asked_of (λ d. wait.Send d value) id (ticks_in timeout) p
asked p (call.Buffer (buffer.RcvDtq id)) = asked_of wait.Receive id None p
asked p (call.Buffer (buffer.TrcvDtq id timeout)) = asked_of wait.Receive id (ticks_in timeout) p
asked p (call.Buffer (buffer.GetMpf id)) = asked_of wait.Pool id None p
asked p (call.Buffer (buffer.TgetMpf id timeout)) = asked_of wait.Pool id (ticks_in timeout) p
asked p other = None

abbrev pub asked_by : Event → Option OpenWait
asked_by (event.Call p c) = asked p c
asked_by other = None
