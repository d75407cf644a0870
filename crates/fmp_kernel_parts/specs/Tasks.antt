-- believed: see docs/PROOF.md, "What has to be believed"
-- Lists of tasks. As an item a task is its place among all tasks, from 0.
use Rattle.std.specs.Prelude.{◌≡◌, ℕ, ◌+◌, ◌<◌, ◌==◌, Bool, true, false, not, List, [], ◌∷◌, length, filter, if◌then◌else◌}
use Rattle.std.specs.List.{list_any}
use Rattle.fmp_codes.specs.Numbers.{as_task}
use Rattle.fmp_codes.specs.declared.numbers.Task.{Task}
use Rattle.fmp_kernel_parts.specs.Lists.{has, list_at}

abbrev pub task_at : ℕ → Task
task_at k = as_task (k + 1)

abbrev pub has_task : Task → List Task → Bool
has_task t ts = list_any (λ u. t.number == u.number) ts

-- the list without a task
abbrev pub without : Task → List Task → List Task
without t ts = filter (λ u. not (u.number == t.number)) ts

-- the list with t before b, or last where b is not in it
abbrev pub inserted : Task → Task → List Task → List Task
inserted b t [] = t ∷ []
inserted b t (u ∷ us) = if u.number == b.number then t ∷ u ∷ us else u ∷ inserted b t us

-- no task stands twice
abbrev pub AreDistinct : List Task → Type 0
AreDistinct [] = Unit {0}
AreDistinct (t ∷ ts) = (has_task t ts ≡ false) × AreDistinct ts

-- one list, of the items of tasks
pub record IsOneList (q : List (List ℕ)) : Type 0 where
  pub count : length q ≡ 1
  pub small : (k : ℕ) → has k (list_at q 0) ≡ true → k < 64
