-- Lists of values that are kept by the numbers of their values: each has one list of numbers, which is that of no other.
use Rattle.std.proofs.Common.{◌≡◌, ◌∙◌, ℕ, List, [], ◌∷◌, ◌++◌, refl, ap, sym, append_assoc}
use Rattle.std.specs.Prelude.{Some, slice_get}
use Rattle.std.proofs.lemmas.Option.{same_Some}
use Rattle.fmp_interned.specs.Values.{AreDistinct, IsBeginning}
use Rattle.fmp_interned.specs.Parts.{AddsNumbers, AreNumbersOf}
use Rattle.fmp_interned.proofs.Numbers.{number_stays}

module _ {V : Type 0} where
  -- values keep their numbers where others are added
  pub numbers_stay : (kept more : List V) (numbers : List ℕ) (values : List V) → IsBeginning kept more → AreNumbersOf kept numbers values → AreNumbersOf more numbers values
  numbers_stay kept more [] [] begins are = are
  numbers_stay kept more [] (v ∷ vs) begins are = absurd are
  numbers_stay kept more (n ∷ ns) [] begins are = absurd are
  numbers_stay kept more (n ∷ ns) (v ∷ vs) begins are = (number_stays kept more n v begins are.0, numbers_stay kept more ns vs begins are.1)

  -- one more value
  pub numbers_next : (kept : List V) (numbers : List ℕ) (values : List V) (n : ℕ) (v : V) → AreNumbersOf kept numbers values → slice_get kept n ≡ Some v →
      AreNumbersOf kept (numbers ++ n ∷ []) (values ++ v ∷ [])
  numbers_next kept [] [] n v are there = (there, tt)
  numbers_next kept [] (w ∷ ws) n v are there = absurd are
  numbers_next kept (m ∷ ms) [] n v are there = absurd are
  numbers_next kept (m ∷ ms) (w ∷ ws) n v are there = (are.0, numbers_next kept ms ws n v are.1 there)

  -- values have one list of numbers, where no two that are kept are the same
  pub same_numbers : (kept : List V) (ns ms : List ℕ) (values : List V) → AreDistinct kept → AreNumbersOf kept ns values → AreNumbersOf kept ms values → ns ≡ ms
  same_numbers kept [] [] [] distinct one other = refl
  same_numbers kept [] [] (v ∷ vs) distinct one other = absurd one
  same_numbers kept [] (m ∷ ms) [] distinct one other = absurd other
  same_numbers kept [] (m ∷ ms) (v ∷ vs) distinct one other = absurd one
  same_numbers kept (n ∷ ns) [] [] distinct one other = absurd one
  same_numbers kept (n ∷ ns) [] (v ∷ vs) distinct one other = absurd other
  same_numbers kept (n ∷ ns) (m ∷ ms) [] distinct one other = absurd one
  same_numbers kept (n ∷ ns) (m ∷ ms) (v ∷ vs) distinct one other =
      ap (λ k. k ∷ ns) (distinct n m v one.0 other.0) ∙ ap (λ ks. m ∷ ks) (same_numbers kept ns ms vs distinct one.1 other.1)

  -- and numbers are those of one list
  pub same_values : (kept : List V) (numbers : List ℕ) (vs ws : List V) → AreNumbersOf kept numbers vs → AreNumbersOf kept numbers ws → vs ≡ ws
  same_values kept [] [] [] one other = refl
  same_values kept [] [] (w ∷ ws) one other = absurd other
  same_values kept [] (v ∷ vs) ws one other = absurd one
  same_values kept (n ∷ ns) [] ws one other = absurd one
  same_values kept (n ∷ ns) (v ∷ vs) [] one other = absurd other
  same_values kept (n ∷ ns) (v ∷ vs) (w ∷ ws) one other =
      ap (λ x. x ∷ vs) (same_Some v w (sym one.0 ∙ other.0)) ∙ ap (λ xs. w ∷ xs) (same_values kept ns vs ws one.1 other.1)

  -- one more value, which may be new
  pub added_next : (kept more : List V) (values : List V) (old new newer : List ℕ) (n : ℕ) (v : V) → AddsNumbers kept values old new → IsBeginning kept more → slice_get more n ≡ Some v →
      newer ≡ new ++ n ∷ [] → AddsNumbers more (values ++ v ∷ []) old newer
  added_next kept more values old new newer n v added begins there is = (
    added.0 ++ n ∷ [],
    is ∙ ap (λ (ns : List ℕ). ns ++ n ∷ []) added.1 ∙ append_assoc old added.0 (n ∷ []),
    numbers_next more added.0 values n v (numbers_stay kept more added.0 values begins added.2) there,
  )
