-- Rows of which each one is complete, and the word between stands after it.
use Rattle.std.proofs.Common.{◌≡◌, ℕ, List, [], ◌∷◌, ◌++◌, refl, sym, ap, subst, ◌∙◌, append_assoc}
use Rattle.fmp_search_question.specs.Grammar.Rows.{SpellsRow}

module _ {A : Type 0} (Spells : List (List ℕ) → A → Type 0) (between : List ℕ) where
  abbrev pub Closed : List (List ℕ) → List A → Type 0
  Closed words [] = words ≡ []
  Closed words (one ∷ more) = (front : List (List ℕ)) × (rest : List (List ℕ)) × (words ≡ front ++ (between ∷ rest)) × Spells front one × Closed rest more

  -- one more that is complete
  pub closed_more : (words last : List (List ℕ)) (row : List A) (one : A) → Closed words row → Spells last one
      → Closed (words ++ (last ++ between ∷ [])) (row ++ one ∷ [])
  closed_more words last [] one none s = (last, [], ap (λ (ws : List (List ℕ)). ws ++ (last ++ between ∷ [])) none, s, refl)
  closed_more words last (first ∷ row) one c s = (
    c.0,
    c.1 ++ (last ++ between ∷ []),
    ap (λ (ws : List (List ℕ)). ws ++ (last ++ between ∷ [])) c.2 ∙ append_assoc c.0 (between ∷ c.1) (last ++ between ∷ []),
    c.3,
    closed_more c.1 last row one c.4 s,
  )

  -- and the last one of the row
  pub closed_row : (words last : List (List ℕ)) (row : List A) (one : A) → Closed words row → Spells last one → SpellsRow Spells between (words ++ last) (row ++ one ∷ [])
  closed_row words last [] one none s = subst (λ (ws : List (List ℕ)). Spells (ws ++ last) one) (sym none) s
  closed_row words last (first ∷ []) one c s =
      (c.0, c.1 ++ last, ap (λ (ws : List (List ℕ)). ws ++ last) c.2 ∙ append_assoc c.0 (between ∷ c.1) last, c.3, closed_row c.1 last [] one c.4 s)
  closed_row words last (first ∷ second ∷ row) one c s =
      (c.0, c.1 ++ last, ap (λ (ws : List (List ℕ)). ws ++ last) c.2 ∙ append_assoc c.0 (between ∷ c.1) last, c.3, closed_row c.1 last (second ∷ row) one c.4 s)
