-- The calls on the processors and on the state of dispatching leave the objects alone.
use Rattle.std.proofs.Common.{refl, Option, Some, None}
use Rattle.fmp_codes.specs.declared.numbers.Proc.{Proc}
use Rattle.fmp_codes.specs.declared.numbers.Task.{Task}
use Rattle.fmp_codes.specs.declared.calls.SystemCall.{SystemCall}
use Rattle.fmp_codes.specs.declared.calls.SystemCall.TheVariants as call
use Rattle.fmp_rules.specs.World.{World, task}
use Rattle.fmp_rules.specs.Ordering.{Ordering}
use Rattle.fmp_rules.specs.Tasks.{rotate}
use Rattle.fmp_rules.specs.SystemCalls.{rotation, rotation_in_handler, system_row}
use Rattle.fmp_law_balance.proofs.Leaving.{Leaves, leaves_all, leaves_processors, leaves_place}

module _ {Q : Type 0} (k : Ordering Q) (w : World Q) (p : Proc) where
  leaves_rotate : (t : Option Task) → Leaves w (rotate k w t)
  leaves_rotate None = leaves_all w
  leaves_rotate (Some t) = leaves_place k w t (task w t) refl

  pub leaves_system_call : (c : SystemCall) → Leaves w (system_row k w p c).effect.0
  unfolding rotation rotation_in_handler
  leaves_system_call (call.RotRdq n) = leaves_rotate _
  leaves_system_call (call.IrotRdq n) = leaves_rotate _
  leaves_system_call (call.MrotRdq n q) = leaves_rotate _
  leaves_system_call (call.ImrotRdq n q) = leaves_rotate _
  leaves_system_call _ = leaves_processors w _ _
