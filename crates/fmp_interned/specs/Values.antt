-- Values, no two of which are the same.
use Rattle.std.specs.Prelude.{◌≡◌, ◌⊎◌, ℕ, Some, List, [], ◌∷◌, ◌++◌, slice_get}

-- no two values of a list are the same
abbrev pub AreDistinct : {V : Type 0} → List V → Type 0
AreDistinct values = (i j : ℕ) (v : _) → slice_get values i ≡ Some v → slice_get values j ≡ Some v → i ≡ j

-- no value of a list is this one
abbrev pub IsNew : {V : Type 0} → List V → V → Type 0
IsNew values v = (n : ℕ) → slice_get values n ≡ Some v → ⊥

-- the values of a list, with this one after them where it is new
abbrev pub IsAdded : {V : Type 0} → List V → V → List V → Type 0
IsAdded values v more = (more ≡ values) ⊎ (IsNew values v × (more ≡ values ++ v ∷ []))

-- the values of the one come first in the other, so their numbers there are the same
abbrev pub IsBeginning : {V : Type 0} → List V → List V → Type 0
IsBeginning values all = (more : List _) × (all ≡ values ++ more)
