-- Which items have no ticks left, over all lists.
use Rattle.std.proofs.Common.{◌≡◌, ℕ, suc, ◌+◌, ◌-◌, ◌<◌, ◌≤◌, Bool, true, false, Option, Some, None, List, [], ◌∷◌, length, filter, nat_eq, if◌then◌else◌, refl, sym, ap, ◌∙◌, arith, ⊎_elim}
use Rattle.std.specs.Prelude.{slice_index, slice_index_or, is_some, replicate}
use Rattle.std.specs.Option.{option_eq}
use Rattle.std.proofs.lemmas.Bool.{cases_eq, eq-eqb, ne_eqb}
use Rattle.std.proofs.lemmas.List.{ext_get_or, get_or-replicate}
use Rattle.fmp_codes.specs.Numbers.{as_proc}
use Rattle.fmp_codes.specs.declared.numbers.Proc.{Proc}
use Rattle.fmp_codes.specs.declared.numbers.Task.{Task}
use Rattle.fmp_kernel_parts.specs.Lists as links
use Rattle.fmp_kernel_parts.specs.Lists.{has}
use Rattle.fmp_time.specs.declared.item.Item.{Item}
use Rattle.fmp_time.specs.Differences.{Entry, entries_at, ticks_in, least_of, due, entries_of, items_of, zeros_of, IsLeastIn}
use Rattle.fmp_time.specs.Left.{left_on, left_from, left_in, is_over, AreDisjoint}
use Rattle.fmp_time.specs.Times.{place_of, left_of}
use Rattle.fmp_time.specs.Shown.{times_of}
use Rattle.fmp_time.proofs.Entries.{list_at-entries_of}
use Rattle.fmp_time.proofs.Expiring.{zeros_due}
use Rattle.fmp_time.proofs.Found.{has_ticks}
use Rattle.fmp_time.proofs.Lefts.{left-on}
use Rattle.fmp_time.proofs.Effects.{place-low, left_of-times}
use Rattle.fmp_time.proofs.Served.{filter_agree}

-- a list whose first item has no ticks left
pub begins_over : (q : List (List Entry)) (i : ℕ) (o : Option ℕ) → AreDisjoint q → i < 8 → o ≡ least_of (entries_at q i) → option_eq nat_eq o (Some 0) ≡ true →
    (k : ℕ) × (k < 128) × (is_over (left_in q k) ≡ true)
begins_over q i o d h e f = by (entries_at q i) refl
  where
    p : Proc
    p = as_proc (i + 1)

    place : p.number - 1 ≡ i
    place = omega (arith, h)

    by : (es : List Entry) → entries_at q i ≡ es → (k : ℕ) × (k < 128) × (is_over (left_in q k) ≡ true)
    by [] s = let bad : o ≡ None = e ∙ ap least_of s in cc
    by (y ∷ ys) s =
        let first : o ≡ Some y.1 = e ∙ ap least_of s in
        let zero : nat_eq y.1 0 ≡ true = sym (ap (λ (l : Option ℕ). option_eq nat_eq l (Some 0)) first) ∙ f in
        let there : ticks_in (entries_at q (p.number - 1)) y.0 ≡ Some y.1 =
        ap (λ (j : ℕ). ticks_in (entries_at q j) y.0) place ∙ ap (λ (es : List Entry). ticks_in es y.0) s ∙ ap (λ (b : Bool). if b then Some y.1 else ticks_in ys y.0) (eq-eqb y.0 y.0 refl) in
        (y.0, d.small (p.number - 1) y.0 (has_ticks y.0 (entries_at q (p.number - 1)) ∙ ap is_some there), ap is_over (left-on q d p y.0 y.1 there) ∙ zero)

-- a list whose first item has ticks left
pub all_later : (es : List Entry) (o : Option ℕ) → o ≡ least_of es → option_eq nat_eq o (Some 0) ≡ false → IsLeastIn es o → (k m : ℕ) → ticks_in es k ≡ Some m → 1 ≤ m
all_later [] o e f least k m g = cc
all_later (y ∷ ys) None e f least k m g = cc
all_later (y ∷ ys) (Some n) e f least k m g =
    ⊎_elim (λ (z : n ≡ 0). let bad : true ≡ false = sym (eq-eqb n 0 z) ∙ f in cc) (λ (z : n ≡ 0 → ⊥). omega (arith, z, least k m g)) (cases_eq n 0)

over_not : (i : ℕ) (q : List (List Entry)) (k : ℕ) (o : Option ℕ) → ((m : ℕ) → o ≡ Some m → 1 ≤ m) → is_over (left_from (i + 1) q k) ≡ false → is_over (left_on (as_proc (i + 1)) o (left_from (i + 1) q k)) ≡ false
over_not i q k None later rest = rest
over_not i q k (Some n) later rest = ne_eqb n 0 (λ z. omega (arith, z, later n refl))

-- nothing has 0 ticks left
pub none_over : (i : ℕ) (q : List (List Entry)) (k : ℕ) → ((j : ℕ) → j < length q → (m : ℕ) → ticks_in (entries_at q j) k ≡ Some m → 1 ≤ m) → is_over (left_from i q k) ≡ false
none_over i [] k later = refl
none_over i (es ∷ q) k later = over_not i q k (ticks_in es k) (later 0 (omega arith)) (none_over (i + 1) q k (λ j l. later (suc j) (omega (arith, l))))

-- the items in front of a list that add nothing
pub zeros_at : (d : List ℕ) (q : List (List ℕ)) (now : List (List Entry)) (i k : ℕ) → entries_of d q ≡ now → has k (zeros_of (slice_index d) (links.list_at q i)) ≡ has k (items_of (due (entries_at now i)))
zeros_at d q now i k e =
    ap (has k) (sym (zeros_due (slice_index d) (links.list_at q i)) ∙ ap (λ (es : List Entry). items_of (due es)) (sym (list_at-entries_of d q i)) ∙ ap (λ (r : List (List Entry)). items_of (due (entries_at r i))) e)

-- those that are marked
module _ {X : Type 0} (q : List (List Entry)) (w : List Task) (f : X → Item) (xs : List X) where
  pub marked_over : (marks : List Bool) → ((k : ℕ) → k < 128 → slice_index_or marks k false ≡ is_over (left_in q k)) →
      filter (λ x. slice_index_or marks (place_of (f x)) false) xs ≡ filter (λ x. is_over (left_of (times_of q w) (f x))) xs
  marked_over marks h = filter_agree _ _ xs (λ x. h (place_of (f x)) (place-low (f x)) ∙ ap is_over (sym (left_of-times q w (f x))))

-- a list without a first item, and lists that are all so
pub none_first : (es : List Entry) (o : Option ℕ) → o ≡ least_of es → is_some o ≡ false → es ≡ []
none_first [] o e none = refl
none_first (y ∷ ys) None e none = cc
none_first (y ∷ ys) (Some n) e none = cc

pub all_none : (q : List (List Entry)) → length q ≡ 8 → ((j : ℕ) → j < 8 → entries_at q j ≡ []) → q ≡ replicate 8 []
all_none q eight none =
    ext_get_or [] q (replicate 8 []) eight (λ j l. let low : j < 8 = omega (arith, l, eight) in none j low ∙ sym (get_or-replicate 8 j [] [] low))
