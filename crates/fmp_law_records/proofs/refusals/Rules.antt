-- When the machine lets each call be made.
use Rattle.std.proofs.Common.{◌≡◌, Bool, false, ◌||◌, refl}
use Rattle.std.specs.Prelude.{if◌then◌else◌}
use Rattle.fmp_codes.specs.declared.numbers.Proc.{Proc}
use Rattle.fmp_codes.specs.declared.calls.Call.{Call}
use Rattle.fmp_codes.specs.declared.calls.Call.TheVariants as call
use Rattle.fmp_codes.specs.declared.calls.TaskCall.TheVariants as tasks
use Rattle.fmp_codes.specs.declared.calls.SyncCall.TheVariants as sync
use Rattle.fmp_codes.specs.declared.calls.BufferCall.TheVariants as buffer
use Rattle.fmp_codes.specs.declared.calls.TimeCall.TheVariants as time
use Rattle.fmp_codes.specs.declared.calls.SystemCall.TheVariants as system
use Rattle.fmp_codes.specs.declared.calls.SpinCall.TheVariants as spin
use Rattle.fmp_rules.specs.declared.machine.Context.{Context}
use Rattle.fmp_rules.specs.declared.machine.Context.TheVariants as context
use Rattle.fmp_rules.specs.declared.machine.Rule.{Rule}
use Rattle.fmp_rules.specs.World.{World}
use Rattle.fmp_rules.specs.Ordering.{Ordering}
use Rattle.fmp_rules.specs.Arguments.{is_caller, task_or_caller}
use Rattle.fmp_rules.specs.Step.{row_of}
use Rattle.fmp_law_records.proofs.Rows.{rows}
use Rattle.fmp_law_records.specs.Refusals.Misplaced.{is_for_handlers, is_for_all, is_for_locked, may_wait}

abbrev pub context_of : Call → Context
context_of c = if is_for_all c then context.Any else if is_for_handlers c then context.Handler else context.Task

module _ {Q : Type 0} (w : World Q) (p : Proc) where
  -- a call that suspends or moves its caller, as the machine finds it
  abbrev pub stops : Call → Bool
  stops (call.Task (tasks.SusTsk id)) = is_caller w p (task_or_caller w p id)
  stops (call.Task (tasks.MigTsk id to)) = is_caller w p (task_or_caller w p id)
  stops other = false

  abbrev pub rule_of : Call → Rule
  rule_of c = record { context = context_of c; when_locked = is_for_locked c; unheld = may_wait c || stops c }

-- the rule of each row is that of its call
pub rule_is : {Q : Type 0} (k : Ordering Q) (w : World Q) (p : Proc) (c : Call) → (row_of k w p c).rule ≡ rule_of w p c
unfolding rows
rule_is k w p (call.Task (tasks.ActTsk id)) = refl
rule_is k w p (call.Task c) = refl
rule_is k w p (call.Sync (sync.SigSem id)) = refl
rule_is k w p (call.Sync c) = refl
rule_is k w p (call.Buffer (buffer.SndDtq id x)) = refl
rule_is k w p (call.Buffer c) = refl
rule_is k w p (call.Time (time.StaCyc id)) = refl
rule_is k w p (call.Time c) = refl
rule_is k w p (call.System (system.RotRdq n)) = refl
rule_is k w p (call.System c) = refl
rule_is k w p (call.Spin (spin.LocSpn id)) = refl
rule_is k w p (call.Spin c) = refl
rule_is k w p call.RetHdr = refl
