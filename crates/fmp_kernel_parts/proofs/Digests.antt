-- What the links and the places add is what their lists tell.
use Rattle.std.proofs.Common.{◌≡◌, ℕ, zero, suc, ◌+◌, ◌-◌, ◌*◌, ◌%◌, ◌^◌, ◌==◌, Bool, true, false, cond, List, [], ◌∷◌, ◌++◌, refl, sym, ap, ◌∙◌, arith, ⊎_elim, bit_or}
use Rattle.std.specs.Prelude.{slice_index}
use Rattle.std.proofs.lemmas.Bool.{cases_eq, eq-eqb, ne_eqb}
use Rattle.std.proofs.Math.Numerals.{suc-eq-add-one}
use Rattle.fmp_kernel_parts.specs.Lists.{has, list_at}
use Rattle.fmp_kernel_parts.specs.Rings.{IsChain, IsSound}
use Rattle.fmp_kernel_parts.specs.Digests.{added, added_all, place_from, first_or, next_along, added_item, added_items}
use Rattle.fmp_kernel_parts.proofs.Having.{has_after}
use Rattle.fmp_kernel_parts.proofs.Soundness.{nowhere, list_in}

-- the values of two lists, one after the other
pub all_parted : {X : Type 0} (f : X → ℕ → ℕ) (xs ys : List X) (sum : ℕ) → added_all f (xs ++ ys) sum ≡ added_all f ys (added_all f xs sum)
all_parted f [] ys sum = refl
all_parted f (x ∷ xs) ys sum = all_parted f xs ys (f x sum)

place_none : (i : ℕ) (q : List (List ℕ)) (t : ℕ) → ((j : ℕ) → has t (list_at q j) ≡ false) → place_from i q t ≡ 0
unfolding place_from
place_none i [] t h = refl
place_none i (xs ∷ q) t h = rw (h 0) (place_none (i + 1) q t (λ j. h (suc j)))

place_there : (i : ℕ) (q : List (List ℕ)) (t j : ℕ) → has t (list_at q j) ≡ true → ((l : ℕ) → (l ≡ j → ⊥) → has t (list_at q l) ≡ false) → place_from i q t ≡ i + j + 1
unfolding place_from
place_there i [] t j e h = let bad : false ≡ true = e in cc
place_there i (xs ∷ q) t zero e h = rw e (omega arith)
place_there i (xs ∷ q) t (suc j) e h =
    rw (h 0 (λ f. omega (arith, f)))
    (place_there (i + 1) q t j e (λ l f. h (suc l) (λ g. f (omega (arith, g)))) ∙ omega arith)

-- the place of an item is told by the lists
place_is : {items : ℕ} {n p w : List ℕ} {q : List (List ℕ)} → IsSound items n p w q → (t : ℕ) → place_from 0 q t ≡ slice_index w t
place_is {w = w} {q = q} s t = by (slice_index w t) refl
  where
    by : (v : ℕ) → slice_index w t ≡ v → place_from 0 q t ≡ slice_index w t
    by zero e = place_none 0 q t (nowhere s t e) ∙ sym e
    by (suc i) e =
        place_there 0 q t i (s.stands i t ∙ eq-eqb (slice_index w t) (suc i) e)
        (λ l f. s.stands l t ∙ ne_eqb (slice_index w t) (suc l) (λ (g : slice_index w t ≡ suc l). f (omega (arith, e, g)))) ∙ omega (arith, e)

-- what comes after an item is told by its list
along_is : (n p : ℕ → ℕ) (a : ℕ) (xs : List ℕ) (z t : ℕ) → IsChain n p a xs z → has t xs ≡ true → next_along z xs t ≡ n t
unfolding next_along
along_is n p a [] z t c h = cc
along_is n p a (x ∷ xs) z t c h =
    ⊎_elim (λ (e : x ≡ t). rw (eq-eqb x t e) (first xs c.2 ∙ ap n e))
    (λ (e : x ≡ t → ⊥). rw (ne_eqb x t e) (along_is n p x xs z t c.2 (has_after t x xs (λ f. e (sym f)) h))) (cases_eq x t)
  where
    first : (ys : List ℕ) → IsChain n p x ys z → first_or z ys ≡ n x
    first [] d = sym d.0
    first (y ∷ ys) d = sym d.0

next_is : {items : ℕ} {n p w : List ℕ} {q : List (List ℕ)} → IsSound items n p w q → (t i : ℕ) → slice_index w t ≡ suc i → next_along (items + i) (list_at q i) t ≡ slice_index n t
next_is {items} {n} {p} {w} {q} s t i e =
    let there : has t (list_at q i) ≡ true = s.stands i t ∙ eq-eqb (slice_index w t) (suc i) e in
    along_is (slice_index n) (slice_index p) (items + i) (list_at q i) (items + i) t (s.chained i (list_in q i t there)) there

-- one item more, by the links
item_added : {items : ℕ} {n p w : List ℕ} {q : List (List ℕ)} → IsSound items n p w q → (t sum : ℕ) → (slice_index w t ≡ 0 → ⊥) →
    added_item items q t sum ≡ added sum (bit_or (slice_index w t * 2 ^ 16 % 2 ^ 64) (slice_index n t))
item_added {items} {n} {p} {w} {q} s t sum there = by (slice_index w t) refl
  where
    by : (v : ℕ) → slice_index w t ≡ v → added_item items q t sum ≡ added sum (bit_or (slice_index w t * 2 ^ 16 % 2 ^ 64) (slice_index n t))
    by zero e = absurd (there e)
    by (suc i) e =
        let place : place_from 0 q t ≡ suc i = place_is s t ∙ e in
        let at : suc i - 1 ≡ i = omega arith in
        ap (λ (v : ℕ). cond (v == 0) sum (added sum (bit_or (v * 2 ^ 16 % 2 ^ 64) (next_along (items + (v - 1)) (list_at q (v - 1)) t)))) place
        ∙ ap (λ (b : Bool). cond b sum (added sum (bit_or (suc i * 2 ^ 16 % 2 ^ 64) (next_along (items + (suc i - 1)) (list_at q (suc i - 1)) t)))) (ne_eqb (suc i) 0 (λ f. omega (arith, f)))
        ∙ ap (λ (j : ℕ). added sum (bit_or (suc i * 2 ^ 16 % 2 ^ 64) (next_along (items + j) (list_at q j) t))) at
        ∙ ap (λ (m : ℕ). added sum (bit_or (suc i * 2 ^ 16 % 2 ^ 64) m)) (next_is s t i e)
        ∙ ap (λ (v : ℕ). added sum (bit_or (v * 2 ^ 16 % 2 ^ 64) (slice_index n t))) (sym e)

pub item_added_as : {items : ℕ} {n p w : List ℕ} {q : List (List ℕ)} → IsSound items n p w q → (t sum place next : ℕ) → place ≡ slice_index w t → next ≡ slice_index n t →
    (slice_index w t ≡ 0 → ⊥) → added sum (bit_or (place * 2 ^ 16 % 2 ^ 64) next) ≡ added_item items q t sum
item_added_as {n = n} {w = w} s t sum place next e f there =
    ap (λ (v : ℕ). added sum (bit_or (v * 2 ^ 16 % 2 ^ 64) next)) e ∙ ap (λ (m : ℕ). added sum (bit_or (slice_index w t * 2 ^ 16 % 2 ^ 64) m)) f ∙ sym (item_added s t sum there)

pub item_left : {items : ℕ} {n p w : List ℕ} {q : List (List ℕ)} → IsSound items n p w q → (t sum : ℕ) → slice_index w t ≡ 0 → added_item items q t sum ≡ sum
item_left {items} {q = q} s t sum e =
    ap (λ (b : Bool). cond b sum (added sum (bit_or (place_from 0 q t * 2 ^ 16 % 2 ^ 64) (next_along (items + (place_from 0 q t - 1)) (list_at q (place_from 0 q t - 1)) t))))
    (eq-eqb (place_from 0 q t) 0 (place_is s t ∙ e))

pub items_none : (items : ℕ) (q : List (List ℕ)) (sum : ℕ) → added_items items q 0 sum ≡ sum
unfolding added_items
items_none items q sum = refl

items_suc : (items : ℕ) (q : List (List ℕ)) (n sum : ℕ) → added_items items q (suc n) sum ≡ added_item items q n (added_items items q n sum)
unfolding added_items
items_suc items q n sum = refl

pub items_more : (items : ℕ) (q : List (List ℕ)) (n sum : ℕ) → added_items items q (n + 1) sum ≡ added_item items q n (added_items items q n sum)
items_more items q n sum = ap (λ (m : ℕ). added_items items q m sum) (sym (suc-eq-add-one n)) ∙ items_suc items q n sum
