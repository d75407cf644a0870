-- What a wait queue keeps of itself: the tasks, and the rank of each at its place.
use Rattle.std.specs.Prelude.{◌≡◌, ℕ, ◌-◌, true, false, nat_lt, Option, Some, None, List, [], ◌∷◌, length, slice_index, if◌then◌else◌}
use Rattle.fmp_codes.specs.declared.numbers.Task.{Task}
use Rattle.fmp_setup.specs.declared.setup.Order.{Order}
use Rattle.fmp_setup.specs.declared.setup.Order.TheVariants as order
use Rattle.fmp_kernel_parts.specs.Tasks.{has_task}
use Rattle.fmp_waitq.specs.Queue.{Waiter}

abbrev pub rank_in : List ℕ → Task → ℕ
rank_in ranks t = slice_index ranks (t.number - 1)

abbrev pub waiter_in : List ℕ → Task → Waiter
waiter_in ranks t = record { task = t; rank = rank_in ranks t }

-- the first of some tasks whose rank is above n
abbrev pub spot_in : (Task → ℕ) → ℕ → List Task → Option Task
spot_in r n [] = None
spot_in r n (t ∷ ts) = if nat_lt n (r t) then Some t else spot_in r n ts

-- there is a rank for each task, in a queue by arrival 0, as is that of a task that does not wait
pub record AreRanks (o : Order) (ranks : List ℕ) (ts : List Task) : Type 0 where
  pub count : length ranks ≡ 64
  pub flat : o ≡ order.First → (t : Task) → has_task t ts ≡ true → rank_in ranks t ≡ 0
  pub free : (t : Task) → has_task t ts ≡ false → rank_in ranks t ≡ 0
