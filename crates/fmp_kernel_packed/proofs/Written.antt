-- Lists that become the values of numbers, one after the other.
use Rattle.std.proofs.Common.{◌≡◌, ◌∙◌, ℕ, zero, suc, ◌+◌, ◌-◌, ◌<◌, ◌≤◌, List, [], ◌∷◌, ◌++◌, length, get_or, take, drop, refl, ap, sym, add-one, append-nil, arith}
use Rattle.std.proofs.lemmas.Grind.{common_steps}
use Rattle.std.proofs.lemmas.List.{drop_all, take_all}
use Rattle.std.proofs.lemmas.Option.{same_Some, slice_get_within}
use Rattle.std.specs.Prelude.{Some, slice_get, slice_set}
use Rattle.fmp_interned.specs.Parts.{AreNumbersOf}
use Rattle.fmp_rules.specs.World.{with_item}
use Rattle.fmp_kernel_packed.proofs.Joined.{as_many}

-- one more item of a list, written over another
set_next : {X : Type 0} → (xs ys : List X) (at : ℕ) (x : X) → at < length xs → length ys ≡ length xs → x ≡ get_or xs at x →
    slice_set (take at xs ++ drop at ys) at x ≡ take (suc at) xs ++ drop (suc at) ys
set_next [] ys at z small long is = absurd (omega (arith, small))
set_next (x ∷ xs) [] at z small long is = absurd (grind (arith, common_steps, long))
set_next (x ∷ xs) (y ∷ ys) zero z small long is = ap (λ w. w ∷ ys) is
set_next (x ∷ xs) (y ∷ ys) (suc at) z small long is =
    ap (λ ws. x ∷ ws) (set_next xs ys at z (grind (arith, common_steps, small)) (grind (arith, common_steps, long)) is)

module _ {V : Type 0} (kept : List V) where
  -- the value of a number stands at its place
  number_at : (numbers : List ℕ) (values : List V) (at : ℕ) → AreNumbersOf kept numbers values → at < length numbers →
      (v : V) × (slice_get kept (get_or numbers at 0) ≡ Some v) × ((d : V) → v ≡ get_or values at d)
  number_at [] vs at are small = absurd (omega (arith, small))
  number_at (n ∷ ns) [] at are small = absurd are
  number_at (n ∷ ns) (v ∷ vs) zero are small = (v, are.0, λ d. refl)
  number_at (n ∷ ns) (v ∷ vs) (suc at) are small = number_at ns vs at are.1 (grind (arith, common_steps, small))

  -- so it is the number of one that is kept
  pub number_kept : (numbers : List ℕ) (values : List V) (at : ℕ) → AreNumbersOf kept numbers values → at < length numbers → get_or numbers at 0 < length kept
  number_kept numbers values at are small =
      let there = number_at numbers values at are small in
      slice_get_within kept (get_or numbers at 0) there.0 there.1

  -- one more item becomes the value of its number
  pub written_next : (numbers : List ℕ) (values old : List V) (at n : ℕ) (v : V) → AreNumbersOf kept numbers values → length numbers ≡ length old → at < length numbers →
      n ≡ at + 1 → slice_get kept (get_or numbers at 0) ≡ Some v → with_item (take at values ++ drop at old) n v ≡ take (at + 1) values ++ drop (at + 1) old
  written_next numbers values old at n v are long small next is =
      let many = as_many kept numbers values are in
      let there = number_at numbers values at are small in
      let same = same_Some v there.0 (sym is ∙ there.1) ∙ there.2 v in
      let place : n - 1 ≡ at = omega (arith, next) in
      ap (λ k. slice_set (take at values ++ drop at old) k v) place ∙ set_next values old at v (omega (arith, many, small)) (sym long ∙ many) same ∙
      ap (λ k. take k values ++ drop k old) (sym (add-one at))

  -- where all have become them
  pub written_all : (numbers : List ℕ) (values old : List V) (at : ℕ) → AreNumbersOf kept numbers values → length numbers ≡ length old → length numbers ≤ at →
      take at values ++ drop at old ≡ values
  written_all numbers values old at are long past =
      let many = as_many kept numbers values are in
      let none = drop_all at old (omega (arith, long, past)) in
      ap (λ xs. take at values ++ xs) none ∙ append-nil (take at values) ∙ take_all at values (omega (arith, many, past))
