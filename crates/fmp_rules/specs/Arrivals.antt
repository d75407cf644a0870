-- believed: see docs/PROOF.md, "What has to be believed"
-- The model keeps numbers: each task that becomes ready, and each wait that begins, takes the next one. It has no queue.
use Rattle.std.specs.Prelude.{ℕ, zero, suc, ◌+◌, Bool, true, false, ◌&&◌, ◌||◌, ◌==◌, nat_lt, None, List, [], ◌∷◌, length, if◌then◌else◌, is_some}
use Rattle.fmp_codes.specs.Numbers.{as_task}
use Rattle.fmp_codes.specs.declared.numbers.Proc.{Proc}
use Rattle.fmp_codes.specs.declared.numbers.Task.{Task}
use Rattle.fmp_setup.specs.declared.setup.Order.{Order}
use Rattle.fmp_setup.specs.declared.setup.Order.TheVariants as order
use Rattle.fmp_rules.specs.declared.machine.TaskRecord.{TaskRecord}
use Rattle.fmp_rules.specs.World.{World, item, with_item, first, no_task}
use Rattle.fmp_rules.specs.Ordering.{Ordering, is_runnable, waits_in}

pub record Arrivals : Type 0 where
  pub ready : List ℕ  -- for each task, when it became ready or was put last
  pub begun : List ℕ  -- for each task, when its wait began
  pub next : ℕ

abbrev pub State : Type 0
State = World Arrivals

-- the tasks with one more, which stands before those that it comes before
abbrev pub inserted : (Task → Task → Bool) → Task → List Task → List Task
inserted before t [] = t ∷ []
inserted before t (u ∷ us) = if before t u then t ∷ u ∷ us else u ∷ inserted before t us

abbrev pub inserted_if : Bool → (Task → Task → Bool) → Task → List Task → List Task
inserted_if true before t us = inserted before t us
inserted_if false before t us = us

-- those of the tasks 1 to n that qualify, in their order
abbrev pub in_order : (Task → Bool) → (Task → Task → Bool) → ℕ → List Task
in_order qualifies before zero = []
in_order qualifies before (suc n) = inserted_if (qualifies (as_task (suc n))) before (as_task (suc n)) (in_order qualifies before n)

-- the lesser pair of rank and number comes first
abbrev pub comes_before : (Task → ℕ) → List ℕ → Task → Task → Bool
comes_before rank ns t u = nat_lt (rank t) (rank u) || (rank t == rank u && nat_lt (item 0 ns t.number) (item 0 ns u.number))

abbrev pub priority_in : List TaskRecord → Task → ℕ
priority_in tasks t = (item no_task tasks t.number).priority.number

abbrev pub is_ready_on : List TaskRecord → Proc → Task → Bool
is_ready_on tasks p t = is_runnable (item no_task tasks t.number) && (item no_task tasks t.number).assigned.number == p.number

-- the rank of a waiter
abbrev pub rank_in : Order → List TaskRecord → Task → ℕ
rank_in order.First tasks t = 0
rank_in order.Priority tasks t = priority_in tasks t

-- the numbers as a way to keep what came before what
unfoldable pub numbered : Ordering Arrivals
numbered = record {
  put_last = λ q r t. record q { ready = with_item q.ready t.number q.next; next = q.next + 1 };
  take_out = λ q r t. q;
  top = λ q tasks p. first (in_order (is_ready_on tasks p) (comes_before (priority_in tasks) q.ready) (length tasks));
  ready = λ q tasks p n.
      in_order (λ t. is_ready_on tasks p t && priority_in tasks t == n.number) (comes_before (priority_in tasks) q.ready) (length tasks);
  join = λ q o r left t. record q { begun = with_item q.begun t.number q.next; next = q.next + 1 };
  leave = λ q r t. q;
  waiters = λ q tasks o x n.
      in_order (λ t. waits_in x n (item no_task tasks t.number).wait) (comes_before (rank_in o tasks) q.begun) (length tasks);
  timed = λ q left. in_order (λ t. is_some (item None left t.number)) (comes_before (λ t. 0) q.begun) (length left);
}
