-- Orders of lines within bounds.
use Rattle.std.specs.Prelude.{◌≡◌, ℕ, zero, suc, ◌+◌, ◌<◌, ◌≤◌, ◌==◌, Bool, true, false, ◌||◌, Option, Some, List, [], ◌∷◌, length}
use Rattle.fmp_search.specs.Runs.{run}

-- whether a number is among others
unfoldable pub has : List ℕ → ℕ → Bool
has [] i = false
has (j ∷ js) i = (j == i) || has js i

-- no two are the same
abbrev pub AreApart : List ℕ → Type 0
AreApart [] = Unit {0}
AreApart (i ∷ is) = (has is i ≡ false) × AreApart is

-- so many numbers from one on
unfoldable pub numbers_from : ℕ → ℕ → List ℕ
numbers_from low zero = []
numbers_from low (suc k) = low ∷ numbers_from (low + 1) k

-- of lines that are numbered from 0 each has the number of the last line that may come before it. Line j may come after some lines, if it is
-- one of so many, it is none of these, and each line that has to come before it is
pub record MayFollow (last : ℕ → ℕ) (count : ℕ) (taken : List ℕ) (j : ℕ) : Type 0 where
  pub line : j < count
  pub new : has taken j ≡ false
  pub closed : (i : ℕ) → i < j → last i < j → has taken i ≡ true

-- so do these lines, one after the other
abbrev pub AreWithin : (ℕ → ℕ) → ℕ → List ℕ → List ℕ → Type 0
AreWithin last count taken [] = Unit {0}
AreWithin last count taken (j ∷ js) = MayFollow last count taken j × AreWithin last count (j ∷ taken) js

-- without bounds the only orders are the beginnings of the lines as they stand
abbrev pub OrdersStand : (ℕ → ℕ) → ℕ → Type 0
OrdersStand last count = ((i : ℕ) → last i ≡ i) → (order : List ℕ) → AreWithin last count [] order → order ≡ numbers_from 0 (length order)

-- ---- open lines

-- how many lines may be pending
abbrev pub most : ℕ
most = 16

-- these lines are open at a line: no two are the same, and each is before it and may come after it
pub record AreOpen (last : ℕ → ℕ) (j : ℕ) (lines : List ℕ) : Type 0 where
  pub apart : AreApart lines
  pub before : (i : ℕ) → has lines i ≡ true → i < j
  pub bound : (i : ℕ) → has lines i ≡ true → j ≤ last i

-- at no line are more lines open than may be pending
abbrev pub FewOpen : (ℕ → ℕ) → ℕ → Type 0
FewOpen last count = (j : ℕ) (lines : List ℕ) → j < count → AreOpen last j lines → length lines ≤ most

-- ---- right orders

-- of the lines before the goal each that has to be taken is among these
abbrev pub HasAll : (ℕ → Bool) → ℕ → List ℕ → Type 0
HasAll must goal order = (i : ℕ) → i < goal → must i ≡ true → has order i ≡ true

-- these lines, one after the other, are an order within the bounds, each is right, and they have all before the goal that have to be taken
pub record IsRight {S : Type 0} (play : S → ℕ → Option S) (last : ℕ → ℕ) (count : ℕ) (must : ℕ → Bool) (goal : ℕ) (s : S) (order : List ℕ) : Type 0 where
  pub after_it : S
  pub within : AreWithin last count [] order
  pub right : run play s order ≡ Some after_it
  pub all : HasAll must goal order

-- there is one
pub record IsBeginning {S : Type 0} (play : S → ℕ → Option S) (last : ℕ → ℕ) (count : ℕ) (must : ℕ → Bool) (goal : ℕ) (s : S) : Type 0 where
  pub order : List ℕ
  pub after_it : S
  pub within : AreWithin last count [] order
  pub right : run play s order ≡ Some after_it
  pub all : HasAll must goal order

-- the lines before the first of this number have a right order, and with this line they have none
pub record IsFirstWithout {S : Type 0} (play : S → ℕ → Option S) (last : ℕ → ℕ) (count : ℕ) (must : ℕ → Bool) (s : S) (n : ℕ) : Type 0 where
  pub before : IsBeginning play last count must n s
  pub none : IsBeginning play last count must (n + 1) s → ⊥
