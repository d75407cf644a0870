-- Parts of lists, in their order.
use Rattle.std.proofs.Common.{◌≡◌, inl, inr, List, [], ◌∷◌, length, refl, sym, subst, ◌∙◌, arith}
use Rattle.std.specs.Prelude.{◌↔◌, ◌≤◌, All}
use Rattle.std.proofs.lemmas.List.Elements.{All-cons, All-head, All-nil, All-tail}
use Rattle.fmp_search_shrink.specs.Runners.{IsPartOf}

pub part_of_itself : {X : Type 0} (xs : List X) → IsPartOf xs xs
part_of_itself [] = tt
part_of_itself (x ∷ xs) = inl (refl, part_of_itself xs)

-- a part of the rest is a part of the list
pub part_after : {X : Type 0} (y : X) (xs ys : List X) → IsPartOf xs ys → IsPartOf xs (y ∷ ys)
part_after y [] ys part = tt
part_after y (x ∷ xs) ys part = inr part

pub part_of_part : {X : Type 0} (xs part whole : List X) → IsPartOf xs part → IsPartOf part whole → IsPartOf xs whole
part_of_part [] part whole a b = tt
part_of_part (x ∷ xs) [] whole a b = absurd a
part_of_part (x ∷ xs) (p ∷ part) [] a b = absurd b
part_of_part (x ∷ xs) (p ∷ part) (w ∷ whole) (inl same) (inl here) = inl (same.0 ∙ here.0, part_of_part xs part whole same.1 here.1)
part_of_part (x ∷ xs) (p ∷ part) (w ∷ whole) (inr later) (inl here) = inr (part_of_part (x ∷ xs) part whole later here.1)
part_of_part (x ∷ xs) (p ∷ part) (w ∷ whole) a (inr there) = inr (part_of_part (x ∷ xs) (p ∷ part) whole a there)

-- without its first item it is a part, too
part_of_tail : {X : Type 0} (x : X) (xs ys : List X) → IsPartOf (x ∷ xs) ys → IsPartOf xs ys
part_of_tail x xs [] part = absurd part
part_of_tail x xs (y ∷ ys) (inl here) = part_after y xs ys here.1
part_of_tail x xs (y ∷ ys) (inr there) = part_after y xs ys (part_of_tail x xs ys there)

-- an item that both begin with may go from both
pub both_go : {X : Type 0} (x y : X) (xs ys : List X) → x ≡ y → IsPartOf (x ∷ xs) (y ∷ ys) ↔ IsPartOf xs ys
both_go x y xs ys same = (go, λ part. inl (same, part))
  where
    go : IsPartOf (x ∷ xs) (y ∷ ys) → IsPartOf xs ys
    go (inl here) = here.1
    go (inr there) = part_of_tail x xs ys there

-- and another one from the whole
pub other_goes : {X : Type 0} (x y : X) (xs ys : List X) → (x ≡ y → ⊥) → IsPartOf (x ∷ xs) (y ∷ ys) ↔ IsPartOf (x ∷ xs) ys
other_goes x y xs ys other = (go, λ part. inr part)
  where
    go : IsPartOf (x ∷ xs) (y ∷ ys) → IsPartOf (x ∷ xs) ys
    go (inl here) = absurd (other here.0)
    go (inr there) = there

-- what holds of each item of the whole holds of each of its part
pub part_all : {X : Type 0} (P : X → Type 0) (xs whole : List X) → IsPartOf xs whole → All P whole → All P xs
part_all P [] whole part all = All-nil P
part_all P (x ∷ xs) [] part all = absurd part
part_all P (x ∷ xs) (w ∷ whole) (inl here) all = All-cons P x xs (subst P (sym here.0) (All-head P w whole all)) (part_all P xs whole here.1 (All-tail P w whole all))
part_all P (x ∷ xs) (w ∷ whole) (inr there) all = part_all P (x ∷ xs) whole there (All-tail P w whole all)

-- a part is no longer than the whole
pub part_length : {X : Type 0} (xs whole : List X) → IsPartOf xs whole → length xs ≤ length whole
part_length [] whole part = omega arith
part_length (x ∷ xs) [] part = absurd part
part_length (x ∷ xs) (w ∷ whole) (inl here) = omega (arith, part_length xs whole here.1)
part_length (x ∷ xs) (w ∷ whole) (inr there) = omega (arith, part_length (x ∷ xs) whole there)
