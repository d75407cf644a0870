-- Rows of words that are made of shorter ones.
use Rattle.std.specs.Prelude.{◌≡◌, ℕ, List, [], ◌∷◌, ◌++◌}

-- one or more things in a row, with this word between each two
abbrev pub SpellsRow : {A : Type 0} → (List (List ℕ) → A → Type 0) → List ℕ → List (List ℕ) → List A → Type 0
SpellsRow Spells between words [] = ⊥
SpellsRow Spells between words (one ∷ []) = Spells words one
SpellsRow Spells between words (one ∷ next ∷ more) =
    (front : List (List ℕ)) × (rest : List (List ℕ)) × (words ≡ front ++ (between ∷ rest)) × Spells front one × SpellsRow Spells between rest (next ∷ more)
