-- Runs from a place by the numbers of steps.
use Rattle.std.specs.Prelude.{◌≡◌, ℕ, Bool, true, false, Option, None, Some, List, [], ◌∷◌}
use Rattle.std.specs.Int.{bit_at}
use Rattle.std.specs.Option.{option_and_then}
use Rattle.fmp_search.specs.declared.space.Noted.{Noted}

-- the place to which a list of steps leads, if each of them can be made
abbrev pub run : {P : Type 0} → (P → ℕ → Option P) → P → List ℕ → Option P
run after q [] = Some q
run after q (s ∷ ss) = option_and_then (λ r. run after r ss) (after q s)

-- a step was made and led there, or could not be made
abbrev pub Goes : {P : Type 0} → Option P → Bool → P → Type 0
Goes None made q = made ≡ false
Goes (Some r) made q = (made ≡ true) × (q ≡ r)

-- what is told of a step: the tests that it passes, and a number
abbrev pub told_of : {P : Type 0} → (P → ℕ → ℕ) → (P → ℕ → ℕ) → P → ℕ → Noted
told_of passes tells p s = record { passes = passes p s; number = tells p s }

-- likewise, and it was told what is so of the step
abbrev pub Watches : {P : Type 0} → Option P → Noted → Option Noted → P → Type 0
Watches None is report q = report ≡ None
Watches (Some r) is report q = (report ≡ Some is) × (q ≡ r)

-- the steps of these bits cannot be made from a place
abbrev pub AreClosed : {P : Type 0} → (P → ℕ → Option P) → P → ℕ → Type 0
AreClosed after q bits = (s : ℕ) → bit_at bits s ≡ 1 → after q s ≡ None

-- nor those of the bits that were added to others
abbrev pub Closes : {P : Type 0} → (P → ℕ → Option P) → P → ℕ → ℕ → Type 0
Closes after q old new = (s : ℕ) → bit_at old s ≡ 0 → bit_at new s ≡ 1 → after q s ≡ None

-- a step from a place was made and led to another, or cannot be made, and the steps of these bits cannot be made there
pub record IsWatched {P : Type 0} (after : P → ℕ → Option P) (passes tells : P → ℕ → ℕ) (p : P) (step : ℕ) (report : Option Noted) (r : P) (bits : ℕ) : Type 0 where
  pub goes : Watches (after p step) (told_of passes tells p step) report r
  pub closed : AreClosed after p bits
