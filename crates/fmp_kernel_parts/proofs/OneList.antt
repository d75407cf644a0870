-- The one list of tasks, after each change.
use Rattle.std.proofs.Common.{◌≡◌, ℕ, ◌<◌, Bool, true, false, ◌||◌, Option, Some, None, List, [], ◌∷◌, ◌++◌, map, nat_eq, refl, sym, ap, ◌∙◌, arith, ⊎_elim}
use Rattle.std.specs.Prelude.{is_some}
use Rattle.std.specs.Option.{option_eq}
use Rattle.std.proofs.lemmas.Bool.{cases_eq, eq-eqb, eqb-true, or_cases}
use Rattle.std.proofs.lemmas.List.{ext_get_or, get_or-set_same, get_or_past, length-set, length-map}
use Rattle.fmp_kernel_parts.specs.Lists.{has, list_at, without, inserted, push_last, insert_before, take_out}
use Rattle.fmp_kernel_parts.specs.Tasks.{task_at, IsOneList}
use Rattle.fmp_kernel_parts.proofs.Having.{has_inserted, has_push, lacks_without}
use Rattle.fmp_kernel_parts.proofs.Tasks.{items_same}
use Rattle.fmp_kernel_parts.proofs.Soundness.{list_in, list_at-take_out}

-- equal tasks are of equal lists
pub one_same : (q r : List (List ℕ)) → IsOneList q → IsOneList r → map task_at (list_at q 0) ≡ map task_at (list_at r 0) → q ≡ r
one_same q r o p e =
    ext_get_or [] q r (o.count ∙ sym p.count) (λ i h.
    let only : i ≡ 0 = omega (arith, h, o.count) in
    ap (list_at q) only ∙ items_same (list_at q 0) (list_at r 0) o.small p.small e ∙ ap (list_at r) (sym only))

pub one_push : (q : List (List ℕ)) (t : ℕ) → IsOneList q → list_at (push_last q 0 t) 0 ≡ list_at q 0 ++ t ∷ []
one_push q t o = get_or-set_same q 0 (list_at q 0 ++ t ∷ []) [] (omega (arith, o.count))

pub one_insert : (q : List (List ℕ)) (b t : ℕ) → IsOneList q → list_at (insert_before q 0 b t) 0 ≡ inserted b t (list_at q 0)
one_insert q b t o = get_or-set_same q 0 (inserted b t (list_at q 0)) [] (omega (arith, o.count))

small_or : (q : List (List ℕ)) (t u : ℕ) → IsOneList q → t < 64 → (has u (list_at q 0) || nat_eq u t) ≡ true → u < 64
small_or q t u o low e = ⊎_elim (λ (a : has u (list_at q 0) ≡ true). o.small u a) (λ (b : nat_eq u t ≡ true). let same = eqb-true u t b in omega (arith, same, low)) (or_cases (has u (list_at q 0)) (nat_eq u t) e)

or_swap : (a b : Bool) → (a || b) ≡ (b || a)
or_swap true true = refl
or_swap true false = refl
or_swap false true = refl
or_swap false false = refl

pub kept_push : (q : List (List ℕ)) (t : ℕ) → IsOneList q → t < 64 → IsOneList (push_last q 0 t)
kept_push q t o low = record {
  count = length-set q 0 (list_at q 0 ++ t ∷ []) ∙ o.count;
  small = λ u e. small_or q t u o low (sym (has_push u t (list_at q 0)) ∙ ap (has u) (sym (one_push q t o)) ∙ e);
}

pub kept_insert : (q : List (List ℕ)) (b t : ℕ) → IsOneList q → t < 64 → IsOneList (insert_before q 0 b t)
kept_insert q b t o low = record {
  count = length-set q 0 (inserted b t (list_at q 0)) ∙ o.count;
  small = λ u e. small_or q t u o low (or_swap (has u (list_at q 0)) (nat_eq u t) ∙ sym (has_inserted u b t (list_at q 0)) ∙ ap (has u) (sym (one_insert q b t o)) ∙ e);
}

pub kept_take_out : (q : List (List ℕ)) (t : ℕ) → IsOneList q → IsOneList (take_out q t)
kept_take_out q t o = record {
  count = length-map q (without t) ∙ o.count;
  small = λ u e. o.small u (there u (list_at q 0) (ap (has u) (sym (list_at-take_out q t 0)) ∙ e));
}
  where
    there : (u : ℕ) (xs : List ℕ) → has u (without t xs) ≡ true → has u xs ≡ true
    there u xs e = by (has u xs) refl
      where
        by : (b : Bool) → has u xs ≡ b → has u xs ≡ true
        by true f = f
        by false f = let out = lacks_without u t xs f in cc

-- what is not in the list is in none
pub elsewhere : (q : List (List ℕ)) (t : ℕ) → IsOneList q → has t (list_at q 0) ≡ false → (i : ℕ) → has t (list_at q i) ≡ false
elsewhere q t o e i =
    ⊎_elim (λ (f : i ≡ 0). ap (λ (j : ℕ). has t (list_at q j)) f ∙ e)
    (λ (f : i ≡ 0 → ⊥). ap (has t) (get_or_past q i [] (omega (arith, f, o.count)))) (cases_eq i 0)

pub place_there : (q : List (List ℕ)) (t : ℕ) (r : Option ℕ) → IsOneList q → ((i : ℕ) → has t (list_at q i) ≡ option_eq nat_eq r (Some i)) → is_some r ≡ has t (list_at q 0)
place_there q t None o h = sym (h 0)
place_there q t (Some j) o h =
    let within = list_in q j t (h j ∙ eq-eqb j j refl) in
    sym (h 0 ∙ eq-eqb j 0 (omega (arith, within, o.count)))
