-- A change of a memory pool leaves nobody waiting for what is to be had.
use Rattle.std.proofs.Common.{◌≡◌, ℕ, true, false, None, List, [], ◌∷◌, map}
use Rattle.fmp_codes.specs.declared.numbers.Task.{Task}
use Rattle.fmp_rules.specs.World.{first}
use Rattle.fmp_waitq.specs.Queue.{Waiter, task_of, has_waiter, left_by}
use Rattle.fmp_waitq.proofs.Waiters.{waited_before}
use Rattle.fmp_mpf.specs.MemoryPool.{MemoryPool, waiter}
use Rattle.fmp_mpf.specs.Operations.{IsServed, with_handed}

pub served_left : (m : MemoryPool) (t : Task) → IsServed m → IsServed (record m { waiters = left_by t m.waiters })
served_left m t h = record { get = λ u g. h.get u (waited_before u t m.waiters g).1 }

-- where no task is the first none waits
nobody : {X : Type 0} (t : Task) (es : List Waiter) → first (map task_of es) ≡ None → has_waiter t es ≡ true → X
nobody t [] e h = cc
nobody t (x ∷ es) e h = cc

pub served_free : (m : MemoryPool) (b : ℕ) → waiter m ≡ None → IsServed (with_handed m b false)
served_free m b e = record { get = λ t g. nobody t m.waiters e g }
