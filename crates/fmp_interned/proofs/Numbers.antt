-- The numbers of values in lists, where others are added.
use Rattle.std.proofs.Common.{◌≡◌, ◌⊎◌, inl, inr, ℕ, zero, suc, ◌≤◌, List, [], ◌∷◌, ◌++◌, length, refl, sym, ◌∙◌, subst, ap, append_assoc, arith}
use Rattle.std.specs.Prelude.{Some, slice_get}
use Rattle.std.proofs.lemmas.Option.{none-some, same_Some, slice_get_within}
use Rattle.fmp_interned.specs.Values.{IsAdded, IsBeginning, IsNew}

-- a value has the number in a list that it has where others come after
pub slice_get-before : {V : Type 0} → (values more : List V) (k : ℕ) (v : V) → slice_get values k ≡ Some v → slice_get (values ++ more) k ≡ Some v
slice_get-before [] more k v there = absurd (none-some v there)
slice_get-before (x ∷ values) more zero v there = there
slice_get-before (x ∷ values) more (suc k) v there = slice_get-before values more k v there

pub number_stays : {V : Type 0} → (values all : List V) (k : ℕ) (v : V) → IsBeginning values all → slice_get values k ≡ Some v → slice_get all k ≡ Some v
number_stays {V} values all k v begins there =
    subst (λ (vs : List V). slice_get vs k ≡ Some v) (sym begins.1) (slice_get-before values begins.0 k v there)

-- what comes first in what comes first does so in the whole
pub begins_through : {V : Type 0} → (values more all : List V) → IsBeginning values more → IsBeginning more all → IsBeginning values all
begins_through values more all first then =
    (first.0 ++ then.0, then.1 ∙ ap (λ vs. vs ++ then.0) first.1 ∙ append_assoc values first.0 then.0)

-- what stands in a list with one more is that, at its end, or stood there before
pub slice_get-pushed : {V : Type 0} → (xs : List V) (x y : V) (k : ℕ) → slice_get (xs ++ x ∷ []) k ≡ Some y → ((k ≡ length xs) × (y ≡ x)) ⊎ (slice_get xs k ≡ Some y)
slice_get-pushed [] x y zero is = inl (refl, sym (same_Some x y is))
slice_get-pushed [] x y (suc k) is = absurd (none-some y is)
slice_get-pushed (z ∷ xs) x y zero is = inr is
slice_get-pushed (z ∷ xs) x y (suc k) is = elim (slice_get-pushed xs x y k is) [
  | inl last ↦ inl (ap suc last.0, last.1)
  | inr before ↦ inr before
]

-- where a value got a number that was not there before it is new, and was added after the others
pub was_new : {V : Type 0} → (values more : List V) (v : V) (n : ℕ) → IsAdded values v more → slice_get more n ≡ Some v → length values ≤ n → IsNew values v × (n ≡ length values) × (more ≡ values ++ v ∷ [])
was_new {V} values more v n (inl same) at past =
    let low = slice_get_within values n v (subst (λ (vs : List V). slice_get vs n ≡ Some v) same at) in
    absurd (omega (arith, low, past))
was_new {V} values more v n (inr added) at past = elim (slice_get-pushed values v v n (subst (λ (vs : List V). slice_get vs n ≡ Some v) added.1 at)) [
  | inl last ↦ (added.0, last.0, added.1)
  | inr before ↦ let low = slice_get_within values n v before in absurd (omega (arith, low, past))
]
