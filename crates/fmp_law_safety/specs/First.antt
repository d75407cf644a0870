-- believed: see docs/PROOF.md, "What has to be believed"
-- What it is to come first.
use Rattle.std.specs.Prelude.{◌≡◌, ℕ, ◌≤◌, Bool, true, false, Option, None, Some}
use Rattle.fmp_codes.specs.declared.numbers.Task.{Task}
use Rattle.fmp_codes.specs.declared.numbers.Object.{Object}
use Rattle.fmp_rules.specs.declared.machine.QueueKind.{QueueKind}
use Rattle.fmp_rules.specs.World.{World, task}
use Rattle.fmp_rules.specs.Ordering.{waits_in}

-- none comes before itself, and what comes before another comes before all that this one comes before
pub record IsStrict (before : Task → Task → Bool) : Type 0 where
  pub irreflexive : (t : Task) → before t t ≡ false
  pub transitive : (t u v : Task) → before t u ≡ true → before u v ≡ true → before t v ≡ true

-- of the tasks 1 to n this one qualifies, and none that qualifies comes before it; there is none only where none qualifies
abbrev pub IsFirst : (Task → Bool) → (Task → Task → Bool) → ℕ → Option Task → Type 0
IsFirst qualifies before n None = (u : Task) → u.number ≤ n → qualifies u ≡ false
IsFirst qualifies before n (Some t) =
    (t.number ≤ n) × (qualifies t ≡ true) × ((u : Task) → u.number ≤ n → qualifies u ≡ true → before u t ≡ false)

-- a task waits in the queue of an object
abbrev pub waits_at : {Q : Type 0} → World Q → QueueKind → Object → Task → Bool
waits_at w kind o t = waits_in kind o (task w t).wait
