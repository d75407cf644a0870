-- Who waits after a task has left.
use Rattle.std.proofs.Common.{◌≡◌, false, None, List, [], ◌∷◌, map, refl}
use Rattle.fmp_codes.specs.declared.numbers.Task.{Task}
use Rattle.fmp_rules.specs.World.{first}
use Rattle.fmp_waitq.specs.Queue.{Waiter, task_of, has_waiter}

pub nobody_waits : (t : Task) (es : List Waiter) → first (map task_of es) ≡ None → has_waiter t es ≡ false
nobody_waits t [] e = refl
nobody_waits t (x ∷ es) e = cc
