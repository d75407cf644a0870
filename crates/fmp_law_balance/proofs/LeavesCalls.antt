-- What each call leaves alone.
use Rattle.fmp_codes.specs.declared.numbers.Proc.{Proc}
use Rattle.fmp_codes.specs.declared.calls.Call.{Call}
use Rattle.fmp_codes.specs.declared.calls.Call.TheVariants as call
use Rattle.fmp_codes.specs.declared.calls.SyncCall.TheVariants as sync
use Rattle.fmp_codes.specs.declared.calls.BufferCall.TheVariants as buffer
use Rattle.fmp_rules.specs.World.{World}
use Rattle.fmp_rules.specs.Ordering.{Ordering}
use Rattle.fmp_rules.specs.Rows.{called}
use Rattle.fmp_rules.specs.Step.{row_of}
use Rattle.fmp_law_balance.proofs.Leaving.{Leaves, leaves_all}
use Rattle.fmp_law_balance.proofs.Called.{either_way}
use Rattle.fmp_law_balance.proofs.TaskCalls.{leaves_task_call}
use Rattle.fmp_law_balance.proofs.SyncCalls.{leaves_sync_call}
use Rattle.fmp_law_balance.proofs.BufferCalls.{leaves_buffer_call}
use Rattle.fmp_law_balance.proofs.TimeCalls.{leaves_time_call}
use Rattle.fmp_law_balance.proofs.SystemCalls.{leaves_system_call}
use Rattle.fmp_law_balance.proofs.SpinCalls.{leaves_spin_call, leaves_ret}
use Rattle.fmp_law_balance.proofs.Apart.{apart, Apart}

module _ {Q : Type 0} (k : Ordering Q) (w : World Q) (p : Proc) where
  -- a call that is refused changes nothing, apart or not
  refused_apart : (c : Call) → Leaves w (apart c w w)
  refused_apart (call.Sync (sync.SigSem id)) = leaves_all w
  refused_apart (call.Buffer (buffer.GetMpf id)) = leaves_all w
  refused_apart _ = leaves_all w

  apart_effect : (c : Call) → Apart w c (row_of k w p c).effect
  apart_effect (call.Task c) = leaves_task_call k w p c
  apart_effect (call.Sync c) = leaves_sync_call k w p c
  apart_effect (call.Buffer c) = leaves_buffer_call k w p c
  apart_effect (call.Time c) = leaves_time_call w c
  apart_effect (call.System c) = leaves_system_call k w p c
  apart_effect (call.Spin c) = leaves_spin_call w p c
  apart_effect call.RetHdr = leaves_ret w p

  -- what a call leaves alone, be it refused or not
  pub leaves_call : (c : Call) → Apart w c (called w p (row_of k w p c))
  leaves_call c = either_way w p (Apart w c) (row_of k w p c) (λ code. refused_apart c) (apart_effect c)
