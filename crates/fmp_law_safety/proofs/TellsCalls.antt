-- What each call tells: values within 64 signed bits, and releases of tasks that there are.
use Rattle.std.proofs.Common.{◌≡◌, refl, Option, Some, None}
use Rattle.fmp_codes.specs.declared.numbers.Proc.{Proc}
use Rattle.fmp_codes.specs.declared.calls.Call.{Call}
use Rattle.fmp_codes.specs.declared.calls.Call.TheVariants as call
use Rattle.fmp_codes.specs.declared.codes.Code.{Code}
use Rattle.fmp_codes.specs.declared.records.Answer.TheVariants as answer
use Rattle.fmp_calls.specs.Arguments.{CallInBits}
use Rattle.fmp_rules.specs.World.{World}
use Rattle.fmp_rules.specs.Ordering.{Ordering}
use Rattle.fmp_rules.specs.Rows.{Row, check, called, called_by}
use Rattle.fmp_rules.specs.TaskCalls.{task_row}
use Rattle.fmp_rules.specs.SystemCalls.{system_row}
use Rattle.fmp_rules.specs.SpinCalls.{spin_row, ret_hdr}
use Rattle.fmp_rules.specs.TimeCalls.{time_row}
use Rattle.fmp_rules.specs.SyncCalls.{sync_row}
use Rattle.fmp_rules.specs.BufferCalls.{buffer_row}
use Rattle.fmp_rules.specs.Step.{row_of}
use Rattle.fmp_law_safety.specs.Safe.{Safe}
use Rattle.fmp_law_safety.specs.Counts.{Counts, HasCounts}
use Rattle.fmp_law_safety.proofs.Calls.{Accepts, accepts}
use Rattle.fmp_law_safety.proofs.Queues.{Lists}
use Rattle.fmp_law_safety.proofs.Tells.{Tells, tells_plain}
use Rattle.fmp_law_safety.proofs.TaskCalls.{tells_task_call}
use Rattle.fmp_law_safety.proofs.SyncCalls.{tells_sync}
use Rattle.fmp_law_safety.proofs.BufferCalls.{tells_buffer}
use Rattle.fmp_law_safety.proofs.TimeCalls.{tells_time_call}
use Rattle.fmp_law_safety.proofs.SystemCalls.{tells_system_call}
use Rattle.fmp_law_safety.proofs.SpinCalls.{tells_spin_call, tells_ret}

module _ {Q : Type 0} (k : Ordering Q) (n : Counts) (w : World Q) (h : HasCounts n w) (s : Safe k w) (l : Lists k w) (p : Proc) where
  -- a call that is refused tells its code alone
  tells_called : (row : Row Q) → (Accepts w p row → Tells n row.effect) → Tells n (called w p row)
  tells_called row tells = go (check w p row) refl
    where
      go : (o : Option Code) → check w p row ≡ o → Tells n (called_by w row.effect o)
      go None e = tells (accepts w p row e)
      go (Some c) e = tells_plain n w (answer.Done c None) h tt

  pub tells_call : (c : Call) → CallInBits c → Tells n (called w p (row_of k w p c))
  tells_call (call.Task c) fits = tells_called (task_row k w p c) (tells_task_call k n w h s p c)
  tells_call (call.Sync c) fits = tells_called (sync_row k w p c) (tells_sync k n w h l p c fits)
  tells_call (call.Buffer c) fits = tells_called (buffer_row k w p c) (tells_buffer k n w h l p c fits)
  tells_call (call.Time c) fits = tells_called (time_row w c) (tells_time_call n w h p c)
  tells_call (call.System c) fits = tells_called (system_row k w p c) (tells_system_call k n w h p c)
  tells_call (call.Spin c) fits = tells_called (spin_row w p c) (tells_spin_call n w h p c)
  tells_call call.RetHdr fits = tells_called (ret_hdr w p) (λ a. tells_ret n w h p)
