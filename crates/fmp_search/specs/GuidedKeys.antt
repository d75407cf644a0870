-- Keys of places with how many choices were made before.
use Rattle.std.specs.Prelude.{◌≡◌, ℕ, ◌/◌, ◌%◌, ◌^◌, ◌≤◌, Some, List, [], ◌∷◌, drop, length, slice_get}
use Rattle.fmp_search.specs.declared.guided.Choice.{Choice}
use Rattle.fmp_search.specs.Guides.{Guide}

-- two numbers of 64 bits, as four of 32
abbrev pub words_of : ℕ → ℕ → List ℕ
words_of key made = key / 2 ^ 32 ∷ key % 2 ^ 32 ∷ made / 2 ^ 32 ∷ made % 2 ^ 32 ∷ []

-- a number is that of the key of a place and of how many of these choices were made
pub record IsGuidedKey {P : Type 0} (IsKey : ℕ → P → Type 0) (cs : List Choice) (kept : List (List ℕ)) (number : ℕ) (p : Guide P) : Type 0 where
  pub key : ℕ
  pub made : ℕ
  pub is : slice_get kept number ≡ Some (words_of key made)
  pub there : IsKey key p.place
  pub within : made ≤ length cs
  pub left : p.choices ≡ drop made cs
