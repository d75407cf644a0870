-- believed: see docs/PROOF.md, "What has to be believed"
-- Ready queues as lists of tasks, one for each processor and priority.
use Rattle.std.specs.Prelude.{◌≡◌, ℕ, ◌+◌, ◌-◌, ◌*◌, true, Option, Some, None, List, [], ◌∷◌, ◌++◌, slice_set, slice_index_or, map, take, drop}
use Rattle.fmp_codes.specs.declared.numbers.Proc.{Proc}
use Rattle.fmp_codes.specs.declared.numbers.Pri.{Pri}
use Rattle.fmp_codes.specs.declared.numbers.Task.{Task}
use Rattle.fmp_kernel_parts.specs.Digests.{added_items}
use Rattle.fmp_kernel_parts.specs.Tasks.{has_task, without, AreDistinct}

pub record PriorityLists : Type 0 where
  pub lists : List (List Task)  -- of each processor the lists of its priorities, from the highest

-- the place of the list of a processor and a priority among all lists
abbrev pub list_number : Proc → Pri → ℕ
list_number p n = 32 * (p.number - 1) + (n.number - 1)

abbrev pub queue_at : List (List Task) → ℕ → List Task
queue_at q i = slice_index_or q i []

-- the first task goes last
abbrev pub rotated : List Task → List Task
rotated [] = []
rotated (t ∷ ts) = ts ++ t ∷ []

abbrev pub push_last : List (List Task) → ℕ → Task → List (List Task)
push_last q i t = slice_set q i (queue_at q i ++ t ∷ [])

-- a task is in no list any more
abbrev pub take_out : List (List Task) → Task → List (List Task)
take_out q t = map (without t) q

-- the first of the first list that is not empty
abbrev pub first_of : List (List Task) → Option Task
first_of [] = None
first_of ([] ∷ qs) = first_of qs
first_of ((t ∷ ts) ∷ qs) = Some t

-- the first task of the processor at a place, by priority and then by place
abbrev pub top_at : List (List Task) → ℕ → Option Task
top_at q k = first_of (take 32 (drop (32 * k) q))

-- the first task of a processor
abbrev pub top_of : List (List Task) → Proc → Option Task
top_of q p = top_at q (p.number - 1)

-- 1 where a list is not empty
abbrev pub bit_of : {X : Type 0} → List X → ℕ
bit_of [] = 0
bit_of (x ∷ xs) = 1

-- the places of the tasks
abbrev pub items_in : List (List Task) → List (List ℕ)
items_in q = map (map (λ t. t.number - 1)) q

-- what a digest is after these lists were added
unfoldable pub added_lists : List (List Task) → ℕ → ℕ
added_lists q sum = added_items 64 (items_in q) 64 sum

-- no list has a task twice, and no two lists have one
pub record AreDisjoint (q : List (List Task)) : Type 0 where
  pub apart : (i : ℕ) → AreDistinct (queue_at q i)
  pub one : (i j : ℕ) (t : Task) → has_task t (queue_at q i) ≡ true → has_task t (queue_at q j) ≡ true → i ≡ j
