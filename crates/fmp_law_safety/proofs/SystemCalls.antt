-- The calls on the processors and on the state of dispatching keep a state safe, and tell only of what there is.
use Rattle.std.proofs.Common.{◌≡◌, ℤ, pos, ◌<◌, ◌^◌, Bool, true, false, refl, arith, Option, Some, None}
use Rattle.std.specs.Prelude.{option_map, unwrap_or, is_some}
use Rattle.fmp_codes.specs.Records.{IsWithin}
use Rattle.fmp_codes.specs.declared.numbers.Proc.{Proc}
use Rattle.fmp_codes.specs.declared.numbers.Task.{Task}
use Rattle.fmp_codes.specs.declared.calls.SystemCall.{SystemCall}
use Rattle.fmp_codes.specs.declared.calls.SystemCall.TheVariants as call
use Rattle.fmp_codes.specs.declared.codes.Code.TheVariants as code
use Rattle.fmp_codes.specs.declared.records.Answer.TheVariants as answer
use Rattle.fmp_rules.specs.declared.machine.Context.{Context}
use Rattle.fmp_rules.specs.declared.machine.Context.TheVariants as context
use Rattle.fmp_rules.specs.World.{World, task, processor, handler, runner_of, is_held}
use Rattle.fmp_rules.specs.Ordering.{Ordering}
use Rattle.fmp_rules.specs.Tasks.{rotate}
use Rattle.fmp_rules.specs.Rows.{row, called, in_handler, done}
use Rattle.fmp_rules.specs.Arguments.{processor_named}
use Rattle.fmp_rules.specs.Processors.{with_dispatching_disabled}
use Rattle.fmp_rules.specs.SystemCalls.{rotation, rotation_in_handler, get_tid, get_pid, loc_cpu, unl_cpu, truth, sense, system_row}
use Rattle.fmp_law_safety.specs.Safe.{IsNumberOf, Safe}
use Rattle.fmp_law_safety.specs.Counts.{Counts, HasCounts}
use Rattle.fmp_law_safety.proofs.Keeps.{Occupied, KeepsOthers}
use Rattle.fmp_law_safety.proofs.Calls.{from, Accepts, keeps_called, from_task, occupied_at, some_runs, keeps_reported}
use Rattle.fmp_law_safety.proofs.KeepsProcessors.{keeps_flags, keeps_unlocked_alone}
use Rattle.fmp_law_safety.proofs.KeepsWords.{keeps_rotate}
use Rattle.fmp_law_safety.proofs.Tells.{Tells, tells_plain, tells_value, tells_flags, as_before, tells_task}

module _ {Q : Type 0} (k : Ordering Q) (w : World Q) (p : Proc) (s : Safe k w) (within : IsNumberOf w.processors p.number) (there : is_some (runner_of w p) ≡ true) where
  occupied : Occupied w p
  occupied = occupied_at w p (s.processors p within)

  keeps_rotation : (q : Option Proc) (n : ℤ) → KeepsOthers w (called w p (rotation k w p q n)).0 p
  unfolding rotation
  keeps_rotation q n = keeps_called w p (rotation k w p q n) occupied (λ a. keeps_rotate k w p occupied _)

  keeps_rotation_in_handler : (q : Option Proc) (n : ℤ) → KeepsOthers w (called w p (rotation_in_handler k w p q n)).0 p
  unfolding rotation rotation_in_handler
  keeps_rotation_in_handler q n = keeps_called w p (rotation_in_handler k w p q n) occupied (λ a. keeps_rotate k w p occupied _)

  keeps_loc : (c : Context) → KeepsOthers w (called w p (from c (loc_cpu w p))).0 p
  keeps_loc c = keeps_called w p (from c (loc_cpu w p)) occupied (λ a. keeps_flags w p within there _ refl (s.processors p within).disabled (λ e. refl))

  keeps_unl : (c : Context) → KeepsOthers w (called w p (from c (unl_cpu w p))).0 p
  keeps_unl c = keeps_called w p (from c (unl_cpu w p)) occupied (λ a. keeps_unlocked_alone w p within there (s.processors p within).disabled a.errors.0)

  keeps_disabled : (b : Bool) → KeepsOthers w (called w p (row (with_dispatching_disabled w p b, done))).0 p
  keeps_disabled b =
      keeps_called w p (row (with_dispatching_disabled w p b, done)) occupied
      (λ a. keeps_flags w p within there _ refl (λ _. some_runs w p (from_task w p false false a.rule)) (λ e. e))

  pub keeps_system : (c : SystemCall) → KeepsOthers w (called w p (system_row k w p c)).0 p
  keeps_system (call.RotRdq n) = keeps_rotation (Some p) n
  keeps_system (call.IrotRdq n) = keeps_rotation_in_handler (Some p) n
  keeps_system (call.MrotRdq n q) = keeps_rotation (processor_named w q) n
  keeps_system (call.ImrotRdq n q) = keeps_rotation_in_handler (processor_named w q) n
  keeps_system call.GetTid = keeps_reported w p (get_tid w p) refl occupied
  keeps_system call.IgetTid = keeps_reported w p (in_handler (get_tid w p)) refl occupied
  keeps_system call.GetPid = keeps_reported w p (get_pid w p) refl occupied
  keeps_system call.IgetPid = keeps_reported w p (in_handler (get_pid w p)) refl occupied
  keeps_system call.LocCpu = keeps_loc context.Task
  keeps_system call.IlocCpu = keeps_loc context.Handler
  keeps_system call.UnlCpu = keeps_unl context.Task
  keeps_system call.IunlCpu = keeps_unl context.Handler
  keeps_system call.DisDsp = keeps_disabled true
  keeps_system call.EnaDsp = keeps_disabled false
  keeps_system call.SnsCtx = keeps_reported w p (sense w (is_some (handler w p))) refl occupied
  keeps_system call.SnsLoc = keeps_reported w p (sense w (processor w p).locked) refl occupied
  keeps_system call.SnsDsp = keeps_reported w p (sense w (processor w p).disabled) refl occupied
  keeps_system call.SnsDpn = keeps_reported w p (sense w (is_held w p)) refl occupied

-- ---- what they tell

truth_within : (b : Bool) → IsWithin (2 ^ 63) (truth b)
truth_within true = omega arith
truth_within false = omega arith

number_within : (o : Option Task) → unwrap_or (option_map (λ t. t.number) o) 0 < 2 ^ 63
number_within None = omega arith
number_within (Some t) = omega (arith, t.most)

module _ {Q : Type 0} (k : Ordering Q) (n : Counts) (w : World Q) (h : HasCounts n w) (p : Proc) where
  tells_rotation : (t : Option Task) → Tells n (rotate k w t, done)
  tells_rotation None = tells_plain n w (answer.Done code.Accepted None) h tt
  tells_rotation (Some t) = tells_task n w h t (task w t) _ (answer.Done code.Accepted None) (as_before n w h t) tt

  pub tells_system_call : (c : SystemCall) → Accepts w p (system_row k w p c) → Tells n (system_row k w p c).effect
  unfolding rotation rotation_in_handler
  tells_system_call (call.RotRdq m) a = tells_rotation _
  tells_system_call (call.IrotRdq m) a = tells_rotation _
  tells_system_call (call.MrotRdq m q) a = tells_rotation _
  tells_system_call (call.ImrotRdq m q) a = tells_rotation _
  tells_system_call call.GetTid a = tells_value n w h _ (number_within (processor w p).running)
  tells_system_call call.IgetTid a = tells_value n w h _ (number_within (processor w p).running)
  tells_system_call call.GetPid a = tells_value n w h (pos p.number) (omega (arith, p.most))
  tells_system_call call.IgetPid a = tells_value n w h (pos p.number) (omega (arith, p.most))
  tells_system_call call.LocCpu a = tells_flags n w h p _
  tells_system_call call.IlocCpu a = tells_flags n w h p _
  tells_system_call call.UnlCpu a = tells_flags n w h p _
  tells_system_call call.IunlCpu a = tells_flags n w h p _
  tells_system_call call.DisDsp a = tells_flags n w h p _
  tells_system_call call.EnaDsp a = tells_flags n w h p _
  tells_system_call call.SnsCtx a = tells_value n w h _ (truth_within _)
  tells_system_call call.SnsLoc a = tells_value n w h _ (truth_within _)
  tells_system_call call.SnsDsp a = tells_value n w h _ (truth_within _)
  tells_system_call call.SnsDpn a = tells_value n w h _ (truth_within _)
