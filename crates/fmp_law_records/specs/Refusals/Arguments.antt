-- Which arguments a call may have, by the configuration and the records before it.
use Rattle.std.specs.Prelude.{◌≡◌, ℕ, ◌-◌, ℤ, pos, negsuc, Bool, true, false, not, ◌&&◌, nat_lt, Option, List, is_some, slice_index_or, sum_by}
use Rattle.fmp_codes.specs.declared.numbers.Object.{Object}
use Rattle.fmp_codes.specs.declared.calls.Call.{Call}
use Rattle.fmp_codes.specs.declared.calls.Call.TheVariants as call
use Rattle.fmp_codes.specs.declared.calls.TaskCall.{TaskCall}
use Rattle.fmp_codes.specs.declared.calls.TaskCall.TheVariants as task
use Rattle.fmp_codes.specs.declared.calls.SyncCall.{SyncCall}
use Rattle.fmp_codes.specs.declared.calls.SyncCall.TheVariants as sync
use Rattle.fmp_codes.specs.declared.calls.BufferCall.{BufferCall}
use Rattle.fmp_codes.specs.declared.calls.BufferCall.TheVariants as buffer
use Rattle.fmp_codes.specs.declared.calls.TimeCall.{TimeCall}
use Rattle.fmp_codes.specs.declared.calls.TimeCall.TheVariants as time
use Rattle.fmp_codes.specs.declared.calls.SystemCall.{SystemCall}
use Rattle.fmp_codes.specs.declared.calls.SystemCall.TheVariants as system
use Rattle.fmp_codes.specs.declared.codes.Code.TheVariants as code
use Rattle.fmp_codes.specs.declared.records.Answer.{Answer}
use Rattle.fmp_codes.specs.declared.records.Answer.TheVariants as answer
use Rattle.fmp_codes.specs.declared.records.Event.{Event}
use Rattle.fmp_codes.specs.declared.records.Event.TheVariants as event
use Rattle.fmp_codes.specs.declared.records.Record.{Record}
use Rattle.fmp_codes.specs.declared.records.Runner.{Runner}
use Rattle.fmp_codes.specs.Records.{processor_of}
use Rattle.fmp_setup.specs.declared.setup.Class.{Class}
use Rattle.fmp_setup.specs.declared.setup.PoolSetup.{PoolSetup}
use Rattle.fmp_setup.specs.Setup.{Setup, no_pool, no_cyclic, no_alarm}
use Rattle.fmp_law_balance.specs.Pools.{handed_out, given_back}
use Rattle.fmp_law_balance.specs.Waits.Waits.{setup_of}
use Rattle.fmp_law_records.specs.Requests.{report_processor}
use Rattle.fmp_law_records.specs.Refusals.Misplaced.{is_misplaced}
use Rattle.fmp_law_records.specs.Refusals.Meanings.{is_one_of, is_zero_or_of, says_time, says_timeout, task_of, task_meant, object_of, is_in_class}
use Rattle.fmp_law_records.specs.Refusals.Known.{are_known}

-- a block was handed out once more than it was given back
abbrev pub is_out : List Record → Object → ℕ → Bool
is_out records m b = nat_lt (sum_by (given_back m b) records) (sum_by (handed_out m b) records)

module _ (c : Setup) where
  -- What is configured of an object.

  abbrev pub pool_setup : Object → PoolSetup
  pool_setup m = slice_index_or c.pools (m.number - 1) no_pool

  abbrev pub cyclic_class : ℤ → Class
  cyclic_class id = (slice_index_or c.cyclics ((object_of id).number - 1) no_cyclic).class

  abbrev pub alarm_class : ℤ → Class
  alarm_class id = (slice_index_or c.alarms ((object_of id).number - 1) no_alarm).class

  -- Each other argument is in its range.

  module _ (r : Option Runner) where
    abbrev pub task_ranges : TaskCall → Bool
    task_ranges (task.MactTsk id to) = is_in_class (setup_of c (task_meant r id)).class to
    task_ranges (task.ImactTsk id to) = is_in_class (setup_of c (task_of id)).class to
    task_ranges (task.MigTsk id to) = is_in_class (setup_of c (task_meant r id)).class to
    task_ranges (task.ChgPri id n) = is_zero_or_of c.limits.priorities n
    task_ranges (task.TslpTsk timeout) = says_timeout timeout
    task_ranges (task.DlyTsk after) = says_time after
    task_ranges other = true

  abbrev pub sync_ranges : SyncCall → Bool
  sync_ranges (sync.TwaiSem id timeout) = says_timeout timeout
  sync_ranges (sync.WaiFlg id bits mode) = nat_lt 0 bits
  sync_ranges (sync.TwaiFlg id bits mode timeout) = nat_lt 0 bits && says_timeout timeout
  sync_ranges (sync.PolFlg id bits mode) = nat_lt 0 bits
  sync_ranges other = true

  -- the block that a call gives back is one of the pool, and it is out
  abbrev pub is_block_out : List Record → Object → ℤ → Bool
  is_block_out records m (pos b) = nat_lt b (pool_setup m).blocks && is_out records m b
  is_block_out records m (negsuc b) = false

  abbrev pub buffer_ranges : List Record → BufferCall → Bool
  buffer_ranges records (buffer.TsndDtq id value timeout) = says_timeout timeout
  buffer_ranges records (buffer.TrcvDtq id timeout) = says_timeout timeout
  buffer_ranges records (buffer.TgetMpf id timeout) = says_timeout timeout
  buffer_ranges records (buffer.RelMpf id block) = is_block_out records (object_of id) block
  buffer_ranges records other = true

  abbrev pub time_ranges : TimeCall → Bool
  time_ranges (time.MstaCyc id to) = is_in_class (cyclic_class id) to
  time_ranges (time.StaAlm id after) = says_time after
  time_ranges (time.IstaAlm id after) = says_time after
  time_ranges (time.MstaAlm id after to) = says_time after && is_in_class (alarm_class id) to
  time_ranges (time.ImstaAlm id after to) = says_time after && is_in_class (alarm_class id) to
  time_ranges other = true

  abbrev pub system_ranges : SystemCall → Bool
  system_ranges (system.RotRdq n) = is_zero_or_of c.limits.priorities n
  system_ranges (system.IrotRdq n) = is_one_of c.limits.priorities n
  system_ranges (system.MrotRdq n on) = is_zero_or_of c.limits.priorities n
  system_ranges (system.ImrotRdq n on) = is_one_of c.limits.priorities n
  system_ranges other = true

  abbrev pub are_proper : List Record → Option Runner → Call → Bool
  are_proper records r (call.Task x) = task_ranges r x
  are_proper records r (call.Sync x) = sync_ranges x
  are_proper records r (call.Buffer x) = buffer_ranges records x
  are_proper records r (call.Time x) = time_ranges x
  are_proper records r (call.System x) = system_ranges x
  are_proper records r other = true

-- What is answered.

-- E_ID
abbrev pub is_unknown_error : Answer → Bool
is_unknown_error (answer.Done code.Identifier value) = true
is_unknown_error other = false

-- E_PAR
abbrev pub is_range_error : Answer → Bool
is_range_error (answer.Done code.Parameter value) = true
is_range_error other = false

-- somebody makes the call, and it is not misplaced
abbrev pub is_in_place : Setup → List Record → Option Runner → Event → Call → Bool
is_in_place c records r e x = is_some r && not (is_misplaced (report_processor c (processor_of e) records) r x)

-- where these are the records before it, a call answers E_ID just where it is in place and has an ID of no object, and E_PAR just
-- where it is in place, its IDs are known, and another argument is out of its range
pub record AreJudged (c : Setup) (records : List Record) (r : Option Runner) (a : Answer) (e : Event) (x : Call) : Type 0 where
  pub unknown : is_unknown_error a ≡ (is_in_place c records r e x && not (are_known c x))
  pub improper : is_range_error a ≡ (is_in_place c records r e x && are_known c x && not (are_proper c records r x))

abbrev pub EventIsJudged : Setup → List Record → Option Runner → Answer → Event → Type 0
EventIsJudged c records r a (event.Call p x) = AreJudged c records r a (event.Call p x) x
EventIsJudged c records r a other = Unit {0}

abbrev pub ArgumentsAreJudged : Setup → List Record → Record → Type 0
ArgumentsAreJudged c records r = EventIsJudged c records r.runner r.answer r.event
