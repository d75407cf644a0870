-- Which IDs a call may have: those of the objects of the configuration.
use Rattle.std.specs.Prelude.{Bool, true, ◌&&◌, length}
use Rattle.fmp_codes.specs.declared.calls.Call.{Call}
use Rattle.fmp_codes.specs.declared.calls.Call.TheVariants as call
use Rattle.fmp_codes.specs.declared.calls.TaskCall.{TaskCall}
use Rattle.fmp_codes.specs.declared.calls.TaskCall.TheVariants as task
use Rattle.fmp_codes.specs.declared.calls.SyncCall.{SyncCall}
use Rattle.fmp_codes.specs.declared.calls.SyncCall.TheVariants as sync
use Rattle.fmp_codes.specs.declared.calls.BufferCall.{BufferCall}
use Rattle.fmp_codes.specs.declared.calls.BufferCall.TheVariants as buffer
use Rattle.fmp_codes.specs.declared.calls.TimeCall.{TimeCall}
use Rattle.fmp_codes.specs.declared.calls.TimeCall.TheVariants as time
use Rattle.fmp_codes.specs.declared.calls.SystemCall.{SystemCall}
use Rattle.fmp_codes.specs.declared.calls.SystemCall.TheVariants as system
use Rattle.fmp_codes.specs.declared.calls.SpinCall.{SpinCall}
use Rattle.fmp_codes.specs.declared.calls.SpinCall.TheVariants as spin
use Rattle.fmp_setup.specs.Setup.{Setup}
use Rattle.fmp_law_records.specs.Refusals.Meanings.{is_one_of, is_zero_or_of}

module _ (c : Setup) where
  abbrev pub task_ids : TaskCall → Bool
  task_ids (task.ActTsk id) = is_zero_or_of (length c.tasks) id
  task_ids (task.IactTsk id) = is_one_of (length c.tasks) id
  task_ids (task.MactTsk id to) = is_zero_or_of (length c.tasks) id && is_zero_or_of c.processors to
  task_ids (task.ImactTsk id to) = is_one_of (length c.tasks) id && is_zero_or_of c.processors to
  task_ids (task.CanAct id) = is_zero_or_of (length c.tasks) id
  task_ids (task.MigTsk id to) = is_zero_or_of (length c.tasks) id && is_zero_or_of c.processors to
  task_ids (task.TerTsk id) = is_one_of (length c.tasks) id
  task_ids (task.ChgPri id n) = is_zero_or_of (length c.tasks) id
  task_ids (task.GetPri id) = is_zero_or_of (length c.tasks) id
  task_ids (task.WupTsk id) = is_zero_or_of (length c.tasks) id
  task_ids (task.IwupTsk id) = is_one_of (length c.tasks) id
  task_ids (task.CanWup id) = is_zero_or_of (length c.tasks) id
  task_ids (task.RelWai id) = is_one_of (length c.tasks) id
  task_ids (task.IrelWai id) = is_one_of (length c.tasks) id
  task_ids (task.SusTsk id) = is_zero_or_of (length c.tasks) id
  task_ids (task.RsmTsk id) = is_one_of (length c.tasks) id
  task_ids other = true

  abbrev pub sync_ids : SyncCall → Bool
  sync_ids (sync.SigSem id) = is_one_of (length c.semaphores) id
  sync_ids (sync.IsigSem id) = is_one_of (length c.semaphores) id
  sync_ids (sync.WaiSem id) = is_one_of (length c.semaphores) id
  sync_ids (sync.TwaiSem id timeout) = is_one_of (length c.semaphores) id
  sync_ids (sync.PolSem id) = is_one_of (length c.semaphores) id
  sync_ids (sync.SetFlg id bits) = is_one_of (length c.eventflags) id
  sync_ids (sync.IsetFlg id bits) = is_one_of (length c.eventflags) id
  sync_ids (sync.ClrFlg id bits) = is_one_of (length c.eventflags) id
  sync_ids (sync.WaiFlg id bits mode) = is_one_of (length c.eventflags) id
  sync_ids (sync.TwaiFlg id bits mode timeout) = is_one_of (length c.eventflags) id
  sync_ids (sync.PolFlg id bits mode) = is_one_of (length c.eventflags) id

  abbrev pub buffer_ids : BufferCall → Bool
  buffer_ids (buffer.SndDtq id value) = is_one_of (length c.data_queues) id
  buffer_ids (buffer.TsndDtq id value timeout) = is_one_of (length c.data_queues) id
  buffer_ids (buffer.PsndDtq id value) = is_one_of (length c.data_queues) id
  buffer_ids (buffer.IpsndDtq id value) = is_one_of (length c.data_queues) id
  buffer_ids (buffer.FsndDtq id value) = is_one_of (length c.data_queues) id
  buffer_ids (buffer.IfsndDtq id value) = is_one_of (length c.data_queues) id
  buffer_ids (buffer.RcvDtq id) = is_one_of (length c.data_queues) id
  buffer_ids (buffer.TrcvDtq id timeout) = is_one_of (length c.data_queues) id
  buffer_ids (buffer.PrcvDtq id) = is_one_of (length c.data_queues) id
  buffer_ids (buffer.GetMpf id) = is_one_of (length c.pools) id
  buffer_ids (buffer.TgetMpf id timeout) = is_one_of (length c.pools) id
  buffer_ids (buffer.PgetMpf id) = is_one_of (length c.pools) id
  buffer_ids (buffer.RelMpf id block) = is_one_of (length c.pools) id

  abbrev pub time_ids : TimeCall → Bool
  time_ids (time.StaCyc id) = is_one_of (length c.cyclics) id
  time_ids (time.MstaCyc id to) = is_one_of (length c.cyclics) id && is_zero_or_of c.processors to
  time_ids (time.StpCyc id) = is_one_of (length c.cyclics) id
  time_ids (time.StaAlm id after) = is_one_of (length c.alarms) id
  time_ids (time.IstaAlm id after) = is_one_of (length c.alarms) id
  time_ids (time.MstaAlm id after to) = is_one_of (length c.alarms) id && is_zero_or_of c.processors to
  time_ids (time.ImstaAlm id after to) = is_one_of (length c.alarms) id && is_zero_or_of c.processors to
  time_ids (time.StpAlm id) = is_one_of (length c.alarms) id
  time_ids (time.IstpAlm id) = is_one_of (length c.alarms) id

  abbrev pub system_ids : SystemCall → Bool
  system_ids (system.MrotRdq n on) = is_one_of c.processors on
  system_ids (system.ImrotRdq n on) = is_one_of c.processors on
  system_ids other = true

  abbrev pub spin_ids : SpinCall → Bool
  spin_ids (spin.LocSpn id) = is_one_of c.spin_locks id
  spin_ids (spin.IlocSpn id) = is_one_of c.spin_locks id
  spin_ids (spin.TrySpn id) = is_one_of c.spin_locks id
  spin_ids (spin.ItrySpn id) = is_one_of c.spin_locks id
  spin_ids (spin.UnlSpn id) = is_one_of c.spin_locks id
  spin_ids (spin.IunlSpn id) = is_one_of c.spin_locks id

  -- each ID of a call is that of an object
  abbrev pub are_known : Call → Bool
  are_known (call.Task x) = task_ids x
  are_known (call.Sync x) = sync_ids x
  are_known (call.Buffer x) = buffer_ids x
  are_known (call.Time x) = time_ids x
  are_known (call.System x) = system_ids x
  are_known (call.Spin x) = spin_ids x
  are_known call.RetHdr = true
