-- Values of which one more is kept.
use Rattle.std.proofs.Common.{◌≡◌, inl, inr, ℕ, ◌+◌, ◌<◌, ◌≤◌, ◌^◌, List, [], ◌∷◌, ◌++◌, length, map, ap, sym, subst, ◌∙◌, arith}
use Rattle.std.specs.Prelude.{Some, option_map, slice_get}
use Rattle.std.proofs.lemmas.Option.{slice_get-map}
use Rattle.std.proofs.lemmas.Grind.{common_steps}
use Rattle.fmp_interned.specs.Tables.{tried, AreMet, IsMet, IsPut, Holds}
use Rattle.fmp_interned.specs.Values.{AreDistinct, IsNew}
use Rattle.fmp_interned.specs.Kept.{IsKept}
use Rattle.fmp_interned.proofs.Tables.{holds_more}
use Rattle.fmp_interned.proofs.Numbers.{slice_get-pushed}

module _ {V : Type 0} (hashed : V → ℕ) where
  -- where none of the slots that were tried has the number of a value, and the next one is free or there is none, it is new
  pub not_found : (values : List V) (slots : List ℕ) (v : V) (hash turn : ℕ) → AreMet slots (map hashed values) → hash ≡ hashed v → turn ≤ length slots →
      ((t k : ℕ) → t < turn → tried slots hash t ≡ k + 1 → slice_get values k ≡ Some v → ⊥) → ((turn < length slots) × (tried slots hash turn ≡ 0 → ⊥) → ⊥) → IsNew values v
  not_found values slots v hash turn met is within not_tried end n there =
      let hash_there = slice_get-map hashed values n ∙ ap (λ o. option_map hashed o) there in
      let this : IsMet slots hash (n + 1) = subst (λ h. IsMet slots h (n + 1)) (sym is) (met n (hashed v) hash_there) in
      end (this turn within (λ t lt at. not_tried t n lt at there))

  -- one more that is new
  pub distinct_more : (values : List V) (v : V) → AreDistinct values → IsNew values v → AreDistinct (values ++ v ∷ [])
  distinct_more values v distinct new i j w at_i at_j = elim (slice_get-pushed values v w i at_i) [
    | inl last ↦ elim (slice_get-pushed values v w j at_j) [
      | inl last_too ↦ last.0 ∙ sym last_too.0
      | inr before ↦ absurd (new j (before ∙ ap Some last.1))
    ]
    | inr before ↦ elim (slice_get-pushed values v w j at_j) [
      | inl last ↦ absurd (new i (before ∙ ap Some last.1))
      | inr before_too ↦ distinct i j w before before_too
    ]
  ]

  -- and its number in the table
  pub kept_more : (values more : List V) (old new : List ℕ) (v : V) (hash number : ℕ) → length values + 1 < 2 ^ 32 → Holds old (map hashed values) → AreDistinct values → IsNew values v → hash ≡ hashed v →
      number ≡ length values + 1 → more ≡ values ++ v ∷ [] → IsPut old new hash number → IsKept hashed more new
  kept_more values more old new v hash number few holds distinct is_new is number_is longer is_put =
      let long : length (values ++ v ∷ []) ≡ length values + 1 = grind (arith, common_steps) in
      let hashes : map hashed values ++ hash ∷ [] ≡ map hashed (values ++ v ∷ []) = grind (arith, common_steps, is) in
      let counted : number ≡ length (map hashed values) + 1 = grind (arith, common_steps, number_is) in
      subst (λ (vs : List V). IsKept hashed vs new) (sym longer)
      (record {
        few = omega (arith, long, few);
        holds = subst (λ (hs : List ℕ). Holds new hs) hashes (holds_more old new (map hashed values) hash number counted holds is_put);
        distinct = distinct_more values v distinct is_new;
      })
