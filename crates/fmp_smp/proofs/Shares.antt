-- How many ticks each processor has of those that are given round by round.
use Rattle.std.proofs.Common.{◌≡◌, ℕ, zero, suc, ◌+◌, ◌*◌, ◌-◌, ◌%◌, ◌<◌, ◌≤◌, ◌==◌, ◌⊎◌, inl, inr, cond, refl, ap, subst, ◌∙◌, arith}
use Rattle.std.proofs.Math.Nat.{add-mul-mod_self_right, mod-eq_of_lt, suc-mul}
use Rattle.std.proofs.lemmas.Nat.{mod_below}
use Rattle.std.proofs.lemmas.Bool.{cases_lt, eq-eqb, ne_eqb}
use Rattle.fmp_codes.specs.Numbers.{as_proc}

-- how many of the first ticks are of the processor of this number, where a round has so many processors from the first one on
unfoldable pub share : ℕ → ℕ → ℕ → ℕ → ℕ
share first count n zero = 0
share first count n (suc g) = share first count n g + cond ((as_proc (first + g % count)).number == n) 1 0

pub share_hit : (first count n g : ℕ) → (as_proc (first + g % count)).number ≡ n → share first count n (suc g) ≡ share first count n g + 1
unfolding share
share_hit first count n g is = ap (λ b. share first count n g + cond b 1 0) (eq-eqb (as_proc (first + g % count)).number n is)

share_miss : (first count n g : ℕ) → ((as_proc (first + g % count)).number ≡ n → ⊥) → share first count n (suc g) ≡ share first count n g
unfolding share
share_miss first count n g other =
    let past : share first count n (suc g) ≡ share first count n g + 0 = ap (λ b. share first count n g + cond b 1 0) (ne_eqb (as_proc (first + g % count)).number n other) in
    omega (arith, past)

-- the place in its round
in_round : (count k j : ℕ) → j < count → (k * count + j) % count ≡ j
in_round count k j small =
    let turned : k * count + j ≡ j + k * count = omega arith in
    ap (λ x. x % count) turned ∙ add-mul-mod_self_right j k count ∙ mod-eq_of_lt small

module _ (first count : ℕ) (least : 1 ≤ first) (most : first + count ≤ 9) (some : 1 ≤ count) where
  -- the number of the processor at a place of a round
  pub number_of : (k j : ℕ) → j < count → (as_proc (first + (k * count + j) % count)).number ≡ first + j
  number_of k j small = rw (in_round count k j small) (omega (arith, least, most, small))

  -- a processor before the first or after the last has none
  out_of_rounds : (n g : ℕ) → (n < first) ⊎ (first + count ≤ n) → share first count n g ≡ 0
  unfolding share
  out_of_rounds n zero out = refl
  out_of_rounds n (suc g) out =
      let below = mod_below g count some in
      let other : (as_proc (first + g % count)).number ≡ n → ⊥ = λ is. elim out [
        | inl before ↦ omega (arith, is, before, below, least, most)
        | inr following ↦ omega (arith, is, following, below, least, most)
      ] in
      share_miss first count n g other ∙ out_of_rounds n g out

  module _ (i : ℕ) (within : i < count) where
    before_place : (k j : ℕ) → j ≤ i → share first count (first + i) (k * count + j) ≡ share first count (first + i) (k * count)
    before_place k zero small = ap (share first count (first + i)) (omega arith)
    before_place k (suc j) small =
        let next : k * count + suc j ≡ suc (k * count + j) = omega arith in
        let number = number_of k j (omega (arith, small, within)) in
        let other : (as_proc (first + (k * count + j) % count)).number ≡ first + i → ⊥ = λ is. omega (arith, is, number, small) in
        ap (share first count (first + i)) next ∙ share_miss first count (first + i) (k * count + j) other ∙ before_place k j (omega (arith, small))

    after_place : (k d : ℕ) → i + d < count → share first count (first + i) (k * count + (i + 1 + d)) ≡ share first count (first + i) (k * count) + 1
    after_place k zero small =
        let next : k * count + (i + 1 + 0) ≡ suc (k * count + i) = omega arith in
        ap (share first count (first + i)) next
        ∙ share_hit first count (first + i) (k * count + i) (number_of k i within)
        ∙ ap (λ x. x + 1) (before_place k i (omega arith))
    after_place k (suc d) small =
        let next : k * count + (i + 1 + suc d) ≡ suc (k * count + (i + 1 + d)) = omega arith in
        let number = number_of k (i + 1 + d) (omega (arith, small)) in
        let other : (as_proc (first + (k * count + (i + 1 + d)) % count)).number ≡ first + i → ⊥ = λ is. omega (arith, is, number) in
        ap (share first count (first + i)) next
        ∙ share_miss first count (first + i) (k * count + (i + 1 + d)) other
        ∙ after_place k d (omega (arith, small))

    -- one tick in each round
    whole_rounds : (k : ℕ) → share first count (first + i) (k * count) ≡ k
    unfolding share
    whole_rounds zero = let none : 0 * count ≡ 0 = omega arith in rw none refl
    whole_rounds (suc k) =
        let round : suc k * count ≡ k * count + (i + 1 + (count - 1 - i)) =
        let one = suc-mul k count in omega (arith, one, within) in
        let last : share first count (first + i) (k * count + (i + 1 + (count - 1 - i))) ≡ share first count (first + i) (k * count) + 1 = after_place k (count - 1 - i) (omega (arith, within)) in
        let before = whole_rounds k in
        ap (share first count (first + i)) round ∙ omega (arith, last, before)

  pub share_grows : (n g d : ℕ) → share first count n g ≤ share first count n (g + d)
  unfolding share
  share_grows n g zero = let same : g + 0 ≡ g = omega arith in rw same (omega arith)
  share_grows n g (suc d) =
      let next : g + suc d ≡ suc (g + d) = omega arith in
      let less = share_grows n g d in
      let more : share first count n (suc (g + d)) ≡ share first count n (g + d) + cond ((as_proc (first + (g + d) % count)).number == n) 1 0 = refl in
      rw next (omega (arith, less, more))

  -- after all ticks a processor of the rounds has as many as there are rounds, and no processor ever has more
  pub share_all : (n k : ℕ) → first ≤ n → n < first + count → share first count n (k * count) ≡ k
  share_all n k least_n most_n =
      let place : first + (n - first) ≡ n = omega (arith, least_n) in
      subst (λ x. share first count x (k * count) ≡ k) place (whole_rounds (n - first) (omega (arith, least_n, most_n)) k)

  pub share_within : (n g k : ℕ) → g ≤ k * count → share first count n g ≤ k
  share_within n g k less = elim (cases_lt n first) [
    | inl before ↦ let none = out_of_rounds n g (inl before) in omega (arith, none)
    | inr least_n ↦ elim (cases_lt n (first + count)) [
      | inl most_n ↦
          let rest : g + (k * count - g) ≡ k * count = omega (arith, less) in
          let grows : share first count n g ≤ share first count n (k * count) = subst (λ x. share first count n g ≤ share first count n x) rest (share_grows n g (k * count - g)) in
          let all = share_all n k least_n most_n in
          omega (arith, grows, all)
      | inr following ↦ let none = out_of_rounds n g (inr following) in omega (arith, none)
    ]
  ]
