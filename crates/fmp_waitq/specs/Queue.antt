-- believed: see docs/PROOF.md, "What has to be believed"
-- A wait queue: its order, and its waiters with their ranks.
use Rattle.std.specs.Prelude.{ℕ, ◌==◌, Bool, not, nat_lt, List, [], ◌∷◌, filter, map, if◌then◌else◌}
use Rattle.std.specs.List.{list_any}
use Rattle.fmp_codes.specs.declared.numbers.Task.{Task}
use Rattle.fmp_codes.specs.declared.numbers.Pri.{Pri}
use Rattle.fmp_setup.specs.declared.setup.Order.{Order}
use Rattle.fmp_kernel_parts.specs.Digests.{added_all, added_task}
use Rattle.fmp_setup.specs.declared.setup.Order.TheVariants as order

pub record Waiter : Type 0 where
  pub task : Task
  pub rank : ℕ

pub record Queue : Type 0 where
  pub order : Order
  pub waiters : List Waiter

abbrev pub task_of : Waiter → Task
task_of e = e.task

-- in a queue by arrival all ranks are equal
abbrev pub rank_of : Order → Pri → ℕ
rank_of order.First n = 0
rank_of order.Priority n = n.number

abbrev pub waiter_of : Order → Task → Pri → Waiter
waiter_of o t n = record { task = t; rank = rank_of o n }

-- what a digest is after these waiters were added: their tasks tell their ranks
abbrev pub added_waiters : List Waiter → ℕ → ℕ
added_waiters es sum = added_all added_task (map task_of es) sum

abbrev pub has_waiter : Task → List Waiter → Bool
has_waiter t es = list_any (λ e. t.number == e.task.number) es

-- the waiters without a task
abbrev pub left_by : Task → List Waiter → List Waiter
left_by t es = filter (λ e. not (e.task.number == t.number)) es

-- the waiters with one more, before the first of a greater rank
abbrev pub put_ranked : Waiter → List Waiter → List Waiter
put_ranked x [] = x ∷ []
put_ranked x (e ∷ es) = if nat_lt x.rank e.rank then x ∷ e ∷ es else e ∷ put_ranked x es

-- a waiter stands last among its equals, wherever its task stood before
abbrev pub joined_by : Waiter → List Waiter → List Waiter
joined_by x es = put_ranked x (left_by x.task es)
