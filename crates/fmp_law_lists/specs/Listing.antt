-- believed: see docs/PROOF.md, "What has to be believed"
-- Lists of tasks in which each of some tasks stands once, in an order.
use Rattle.std.specs.Prelude.{◌≡◌, ℕ, ◌==◌, not, ◌&&◌, Bool, true, false, List, [], ◌∷◌, if◌then◌else◌, count_by}
use Rattle.fmp_codes.specs.declared.numbers.Task.{Task}
use Rattle.fmp_kernel_parts.specs.Tasks.{has_task}

abbrev pub is_task : Task → Task → Bool
is_task t u = t.number == u.number

-- how often a task stands in a list
abbrev pub times : Task → List Task → ℕ
times t us = count_by (is_task t) us

-- it stands there once where it is to stand there, and else not at all
abbrev pub StandsOnceIf : Bool → Task → List Task → Type 0
StandsOnceIf here t us = times t us ≡ (if here then 1 else 0)

-- all that qualify but one
abbrev pub all_but : Task → (Task → Bool) → Task → Bool
all_but u qualifies t = not (is_task t u) && qualifies t

-- t comes before every one of some tasks
abbrev pub AllAfter : (Task → Task → Bool) → Task → List Task → Type 0
AllAfter before t [] = Unit {0}
AllAfter before t (u ∷ us) = (before t u ≡ true) × AllAfter before t us

-- the tasks stand in an order
abbrev pub IsInOrder : (Task → Task → Bool) → List Task → Type 0
IsInOrder before [] = Unit {0}
IsInOrder before (t ∷ ts) = AllAfter before t ts × IsInOrder before ts

-- the list has the tasks that qualify and no other, in an order
pub record IsListOf (qualifies : Task → Bool) (before : Task → Task → Bool) (us : List Task) : Type 0 where
  pub members : (t : Task) → has_task t us ≡ qualifies t
  pub ordered : IsInOrder before us

-- of two tasks that qualify one comes before the other
abbrev pub IsTotal : (Task → Bool) → (Task → Task → Bool) → Type 0
IsTotal qualifies before = (t u : Task) → qualifies t ≡ true → qualifies u ≡ true → is_task t u ≡ false → before t u ≡ false → before u t ≡ true
