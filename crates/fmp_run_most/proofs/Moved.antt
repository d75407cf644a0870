-- One bound more is moved, and where no number has a mark.
use Rattle.std.proofs.Common.{◌≡◌, ◌⊎◌, inl, inr, ◌∙◌, ℕ, zero, suc, ◌+◌, ◌<◌, ◌≤◌, Bool, true, false, ◌||◌, List, [], ◌∷◌, length, get_or, set, Some, refl, ap, sym, subst, arith}
use Rattle.std.specs.Prelude.{slice_get, slice_index}
use Rattle.std.specs.List.{list_any}
use Rattle.std.proofs.lemmas.Bool.{cases_lt, false≢true}
use Rattle.std.proofs.lemmas.List.{get_or-set_same, get_or-set_other}
use Rattle.std.proofs.lemmas.Option.{get_or_from_slice_get}
use Rattle.fmp_run_most.specs.declared.figure.Figure.{Figure}
use Rattle.fmp_run_most.specs.Raised.{IsExtreme}

module _ (figures : List Figure) (first now : List ℕ) (marks : List Bool) (at x : ℕ) (d : Figure) where
  abbrev Moved : List ℕ → ℕ → Type 0
  Moved bounds k = (f : Figure) → slice_get figures k ≡ Some f → IsExtreme f.measure (slice_index first k) marks k (slice_index bounds k)

  module _ (others : (k : ℕ) → at ≤ k → slice_index now k ≡ slice_index first k) where
    pub moved_more : at < length now → ((k : ℕ) → k < at → Moved now k) → IsExtreme (get_or figures at d).measure (slice_index now at) marks at x → (k : ℕ) (f : Figure) → k < at + 1
        → slice_get figures k ≡ Some f → IsExtreme f.measure (slice_index first k) marks k (slice_index (set now at x) k)
    moved_more less so here k f within is = by (cases_lt k at)
      where
        same : k ≡ at → IsExtreme f.measure (slice_index first k) marks k (slice_index (set now at x) k)
        same e =
            let figure : get_or figures at d ≡ f = get_or_from_slice_get figures at f d (ap (λ n. slice_get figures n) (sym e) ∙ is) in
            let old : slice_index now at ≡ slice_index first at = others at (omega arith) in
            let new : slice_index (set now at x) at ≡ x = get_or-set_same now at x 0 less in
            let one = subst (λ (g : Figure). IsExtreme g.measure (slice_index now at) marks at x) figure here in
            let two = subst (λ n. IsExtreme f.measure n marks at x) old one in
            let three = subst (λ n. IsExtreme f.measure (slice_index first at) marks at n) (sym new) two in
            subst (λ n. IsExtreme f.measure (slice_index first n) marks n (slice_index (set now at x) n)) (sym e) three

        by : (k < at) ⊎ (at ≤ k) → IsExtreme f.measure (slice_index first k) marks k (slice_index (set now at x) k)
        by (inl low) = subst (λ n. IsExtreme f.measure (slice_index first k) marks k n) (sym (get_or-set_other now at k x 0 (λ e. omega (arith, low, e)))) (so k low f is)
        by (inr high) = same (omega (arith, within, high))

    pub others_more : (k : ℕ) → at + 1 ≤ k → slice_index (set now at x) k ≡ slice_index first k
    others_more k past = get_or-set_other now at k x 0 (λ e. omega (arith, past, e)) ∙ others k (omega (arith, past))

both_false : (a b : Bool) → (a || b) ≡ false → (a ≡ false) × (b ≡ false)
both_false false false is = (refl, refl)
both_false true b is = cc
both_false false true is = cc

-- where none is so, none is marked
pub none_marked : (test : Bool → Bool) → test true ≡ true → (xs : List Bool) (n : ℕ) → list_any test xs ≡ false → slice_get xs n ≡ Some true → ⊥
none_marked test holds [] n none is = cc
none_marked test holds (x ∷ xs) zero none is =
    let same : x ≡ true = cc in
    false≢true (sym (both_false (test x) (list_any test xs) none).0 ∙ (ap test same ∙ holds))
none_marked test holds (x ∷ xs) (suc n) none is = none_marked test holds xs n (both_false (test x) (list_any test xs) none).1 is
