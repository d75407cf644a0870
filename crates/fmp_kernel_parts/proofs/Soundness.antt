-- The links stay those of the lists when an item comes in or goes out.
use Rattle.std.proofs.Common.{◌≡◌, ℕ, zero, suc, ◌+◌, ◌-◌, ◌<◌, ◌≤◌, Bool, true, false, not, ◌||◌, ◌&&◌, List, [], ◌∷◌, ◌++◌, length, drop, set, replicate, nat_eq, Some, None, refl, sym, ap, ◌∙◌, subst, arith, inl, inr, ◌⊎◌, ⊎_elim}
use Rattle.std.specs.Prelude.{slice_index}
use Rattle.std.proofs.lemmas.Bool.{cases_eq, cases_lt, eq-eqb, ne_eqb, eqb-true, or_cases, lt-ltb, le-ltb}
use Rattle.std.proofs.lemmas.List.{get_or-set_same, get_or-set_other, get_or_past, get_or-map, get_or-drop, ext_get_or, set-get_or, length-set, length-map, length-drop, length-replicate}
use Rattle.std.proofs.Math.Numerals.{suc-eq-add-one}
use Rattle.fmp_kernel_parts.specs.Lists.{has, list_at, without, inserted, insert_before, push_last, take_out, AreDistinct, first_of, rotated, AreDisjoint}
use Rattle.fmp_kernel_parts.specs.Rings.{IsChain, walk, lists_along, IsSound, item_at}
use Rattle.fmp_kernel_parts.proofs.Having.{has_here, has_there, has_inserted, has_without, lacks_from, distinct-inserted, distinct-without, without_lacking, few}
use Rattle.fmp_kernel_parts.proofs.Chaining.{Linked, Unlinked, frame, prev_there, next_there, prev_other, chain_same, chain_insert, chain_without, walk_is, chain_first, chain_next}

pub place_is : {items : ℕ} {n p w : List ℕ} {q : List (List ℕ)} → IsSound items n p w q → (i t : ℕ) → has t (list_at q i) ≡ true → slice_index w t ≡ suc i
place_is {w = w} s i t h = eqb-true (slice_index w t) (suc i) (sym (s.stands i t) ∙ h)

pub item_in : {items : ℕ} {n p w : List ℕ} {q : List (List ℕ)} → IsSound items n p w q → (i t : ℕ) → has t (list_at q i) ≡ true → t < items
item_in {items} {n} {p} {w} {q} s i t h =
    ⊎_elim (λ (e : t < items). e)
    (λ (e : items ≤ t).
    let out : slice_index w t ≡ 0 = get_or_past w t 0 (omega (arith, s.place_count)) in
    absurd (omega (arith, out, place_is s i t h)))
    (cases_lt t items)

pub list_in : (q : List (List ℕ)) (i t : ℕ) → has t (list_at q i) ≡ true → i < length q
list_in q i t h =
    ⊎_elim (λ (e : i < length q). e)
    (λ (e : length q ≤ i). let none : list_at q i ≡ [] = get_or_past q i [] e in let bad : false ≡ true = ap (has t) (sym none) ∙ h in cc)
    (cases_lt i (length q))

in_ring : (k h : ℕ) (xs : List ℕ) → has k (h ∷ xs) ≡ true → (k ≡ h) ⊎ (has k xs ≡ true)
in_ring k h xs e = ⊎_elim (λ (f : nat_eq k h ≡ true). inl (eqb-true k h f)) (λ (f : has k xs ≡ true). inr f) (or_cases (nat_eq k h) (has k xs) e)

-- two rings have no number in common
rings_apart : {items : ℕ} {n p w : List ℕ} {q : List (List ℕ)} → IsSound items n p w q → (i j k : ℕ) → (i ≡ j → ⊥) →
    has k ((items + i) ∷ list_at q i) ≡ true → has k ((items + j) ∷ list_at q j) ≡ true → ⊥
rings_apart {items} {n} {p} {w} {q} s i j k other e f =
    ⊎_elim (λ (a : k ≡ items + i).
    ⊎_elim (λ (b : k ≡ items + j). other (omega (arith, a, b)))
    (λ (b : has k (list_at q j) ≡ true). let low = item_in s j k b in omega (arith, a, low)) (in_ring k (items + j) (list_at q j) f))
    (λ (a : has k (list_at q i) ≡ true).
    ⊎_elim (λ (b : k ≡ items + j). let low = item_in s i k a in omega (arith, b, low))
    (λ (b : has k (list_at q j) ≡ true). other (omega (arith, place_is s i k a, place_is s j k b))) (in_ring k (items + j) (list_at q j) f))
    (in_ring k (items + i) (list_at q i) e)

-- a number in a ring has links
pub ring_in : {items : ℕ} {n p w : List ℕ} {q : List (List ℕ)} → IsSound items n p w q → (i k : ℕ) → i < length q → has k ((items + i) ∷ list_at q i) ≡ true → k < items + length q
ring_in {items} {n} {p} {w} {q} s i k l e =
    ⊎_elim (λ (a : k ≡ items + i). omega (arith, a, l)) (λ (a : has k (list_at q i) ≡ true). let low = item_in s i k a in omega (arith, low)) (in_ring k (items + i) (list_at q i) e)

pub prev_in_ring : {items : ℕ} {n p w : List ℕ} {q : List (List ℕ)} → IsSound items n p w q → (i b : ℕ) → i < length q → has b ((items + i) ∷ list_at q i) ≡ true →
    has (slice_index p b) ((items + i) ∷ list_at q i) ≡ true
prev_in_ring {items} {n} {p} {w} {q} s i b l e = prev_there (slice_index n) (slice_index p) (items + i) (list_at q i) (items + i) b (s.chained i l) e

pub next_in_ring : {items : ℕ} {n p w : List ℕ} {q : List (List ℕ)} → IsSound items n p w q → (i b : ℕ) → i < length q → has b ((items + i) ∷ list_at q i) ≡ true →
    has (slice_index n b) ((items + i) ∷ list_at q i) ≡ true
next_in_ring {items} {n} {p} {w} {q} s i b l e = next_there (slice_index n) (slice_index p) (items + i) (list_at q i) (items + i) b (s.chained i l) e

pub head_out : {items : ℕ} {n p w : List ℕ} {q : List (List ℕ)} → IsSound items n p w q → (i : ℕ) → has (items + i) (list_at q i) ≡ false
head_out {items} {n} {p} {w} {q} s i = lacks_from (items + i) (list_at q i) (λ (h : has (items + i) (list_at q i) ≡ true). let low = item_in s i (items + i) h in omega (arith, low))

-- what the links lead to is the lists
pub lists_are : {items : ℕ} {n p w : List ℕ} {q : List (List ℕ)} → IsSound items n p w q → lists_along items n ≡ q
lists_are {items} {n} {p} {w} {q} s =
    let f = walk (slice_index n) items items in
    let count : length (lists_along items n) ≡ length q = length-map (drop items n) f ∙ length-drop items n ∙ omega (arith, s.next_count) in
    ext_get_or [] (lists_along items n) q count (λ i h.
    let here : i < length (drop items n) = omega (arith, h, length-map (drop items n) f) in
    let within : i < length q = omega (arith, h, count) in
    get_or-map f (drop items n) i 0 [] here ∙ ap f (get_or-drop items n i 0)
    ∙ walk_is (slice_index n) (slice_index p) items items (items + i) (list_at q i) (items + i) (s.chained i within) (λ u g. item_in s i u g) (omega arith)
    (few (list_at q i) items (s.apart i) (λ u g. item_in s i u g)))

-- an item without a place stands nowhere
pub nowhere : {items : ℕ} {n p w : List ℕ} {q : List (List ℕ)} → IsSound items n p w q → (t : ℕ) → slice_index w t ≡ 0 → (i : ℕ) → has t (list_at q i) ≡ false
nowhere {w = w} s t e i = s.stands i t ∙ ne_eqb (slice_index w t) (suc i) (λ (f : slice_index w t ≡ suc i). omega (arith, e, f))

-- an item without a place is in no ring
loose_apart : {items : ℕ} {n p w : List ℕ} {q : List (List ℕ)} → IsSound items n p w q → (i t : ℕ) → t < items → slice_index w t ≡ 0 →
    has t ((items + i) ∷ list_at q i) ≡ true → ⊥
loose_apart {items} {q = q} s i t low e h =
    ⊎_elim (λ (a : t ≡ items + i). omega (arith, a, low)) (λ (a : has t (list_at q i) ≡ true). let v = place_is s i t a in omega (arith, v, e)) (in_ring t (items + i) (list_at q i) h)

pub place_none : {items : ℕ} {n p w : List ℕ} {q : List (List ℕ)} → IsSound items n p w q → (t : ℕ) → ((i : ℕ) → has t (list_at q i) ≡ false) → slice_index w t ≡ 0
place_none {w = w} {q = q} s t e =
    let v = slice_index w t in
    ⊎_elim (λ (a : v ≡ 0). a)
    (λ (a : v ≡ 0 → ⊥).
    let up : v ≡ suc (v - 1) = omega (arith, a) in
    let there : has t (list_at q (v - 1)) ≡ true = s.stands (v - 1) t ∙ eq-eqb v (suc (v - 1)) up in
    let out = e (v - 1) in cc)
    (cases_eq v 0)

sound_insert : (items : ℕ) (n p w : List ℕ) (q : List (List ℕ)) (i b t : ℕ) → IsSound items n p w q → i < length q → t < items → slice_index w t ≡ 0 →
    has b ((items + i) ∷ list_at q i) ≡ true →
    IsSound items (set (set n (slice_index p b) t) t b) (set (set p t (slice_index p b)) b t) (set w t (suc i)) (insert_before q i b t)
sound_insert items n p w q i b t s within low free there = record {
  chained = λ j h.
      let inside : j < length q = subst (λ (k : ℕ). j < k) (length-set q i new) h in
      ⊎_elim (λ (e : j ≡ i).
      subst (λ (k : ℕ). IsChain (slice_index m) (slice_index r) (items + k) (list_at (insert_before q i b t) k) (items + k)) (sym e)
      (subst (λ (xs : List ℕ). IsChain (slice_index m) (slice_index r) (items + i) xs (items + i)) (sym same) changed))
      (λ (e : j ≡ i → ⊥).
      subst (λ (xs : List ℕ). IsChain (slice_index m) (slice_index r) (items + j) xs (items + j)) (sym (others j e))
      (frame (slice_index n) (slice_index p) (slice_index m) (slice_index r) (items + j) (list_at q j) (items + j)
      (λ k g. linked.next_rest k (λ (f : k ≡ l). rings_apart s j i k e g (subst (λ (y : ℕ). has y ((items + i) ∷ list_at q i) ≡ true) (sym f) from))
      (λ (f : k ≡ t). foreign j k g f))
      (λ k g. linked.prev_rest k (λ (f : k ≡ t). foreign j k g f)
      (λ (f : k ≡ b). rings_apart s j i k e g (subst (λ (y : ℕ). has y ((items + i) ∷ list_at q i) ≡ true) (sym f) there)))
      (s.chained j inside)))
      (cases_eq j i);
  apart = λ j.
      ⊎_elim (λ (e : j ≡ i). subst (λ (k : ℕ). AreDistinct (list_at (insert_before q i b t) k)) (sym e) (subst AreDistinct (sym same) (distinct-inserted b t (list_at q i) (s.apart i) (out i))))
      (λ (e : j ≡ i → ⊥). subst AreDistinct (sym (others j e)) (s.apart j)) (cases_eq j i);
  stands = λ j u.
      ⊎_elim (λ (e : j ≡ i). subst (λ (k : ℕ). has u (list_at (insert_before q i b t) k) ≡ nat_eq (slice_index (set w t (suc i)) u) (suc k)) (sym e)
      (ap (has u) same ∙ has_inserted u b t (list_at q i) ∙
      ⊎_elim (λ (f : u ≡ t). ap (λ (c : Bool). c || has u (list_at q i)) (eq-eqb u t f) ∙ sym (eq-eqb (slice_index (set w t (suc i)) u) (suc i) (ap (slice_index (set w t (suc i))) f ∙ put)))
      (λ (f : u ≡ t → ⊥). ap (λ (c : Bool). c || has u (list_at q i)) (ne_eqb u t f) ∙ s.stands i u ∙ ap (λ (v : ℕ). nat_eq v (suc i)) (sym (get_or-set_other w t u (suc i) 0 f)))
      (cases_eq u t)))
      (λ (e : j ≡ i → ⊥). ap (has u) (others j e) ∙
      ⊎_elim (λ (f : u ≡ t). ap (λ (y : ℕ). has y (list_at q j)) f ∙ out j ∙ sym (ne_eqb (slice_index (set w t (suc i)) u) (suc j)
      (λ (g : slice_index (set w t (suc i)) u ≡ suc j). let v = ap (slice_index (set w t (suc i))) f ∙ put in e (omega (arith, v, g)))))
      (λ (f : u ≡ t → ⊥). s.stands j u ∙ ap (λ (v : ℕ). nat_eq v (suc j)) (sym (get_or-set_other w t u (suc i) 0 f)))
      (cases_eq u t))
      (cases_eq j i);
  loose = λ u h e.
      let other : u ≡ t → ⊥ = λ (f : u ≡ t). let v = ap (slice_index (set w t (suc i))) f ∙ put in omega (arith, v, e) in
      let none : slice_index w u ≡ 0 = sym (get_or-set_other w t u (suc i) 0 other) ∙ e in
      linked.next_rest u (λ (f : u ≡ l). loose_apart s i u h none (subst (λ (y : ℕ). has y ((items + i) ∷ list_at q i) ≡ true) (sym f) from)) other ∙ s.loose u h none;
  next_count = length-set (set n l t) t b ∙ length-set n l t ∙ s.next_count ∙ ap (λ (k : ℕ). items + k) (sym (length-set q i new));
  prev_count = length-set (set p t l) b t ∙ length-set p t l ∙ s.prev_count ∙ ap (λ (k : ℕ). items + k) (sym (length-set q i new));
  place_count = length-set w t (suc i) ∙ s.place_count;
}
  where
    l : ℕ
    l = slice_index p b

    m : List ℕ
    m = set (set n l t) t b

    r : List ℕ
    r = set (set p t l) b t

    new : List ℕ
    new = inserted b t (list_at q i)

    out : (j : ℕ) → has t (list_at q j) ≡ false
    out = nowhere s t free

    from : has (slice_index p b) ((items + i) ∷ list_at q i) ≡ true
    from = prev_in_ring s i b within there

    foreign : (j k : ℕ) → has k ((items + j) ∷ list_at q j) ≡ true → k ≡ t → ⊥
    foreign j k g f =
        ⊎_elim (λ (a : k ≡ items + j). omega (arith, a, f, low)) (λ (a : has k (list_at q j) ≡ true). let x = out j in let y : has t (list_at q j) ≡ true = subst (λ (z : ℕ). has z (list_at q j) ≡ true) f a in cc)
        (in_ring k (items + j) (list_at q j) g)

    same : list_at (insert_before q i b t) i ≡ inserted b t (list_at q i)
    same = get_or-set_same q i (inserted b t (list_at q i)) [] within

    others : (j : ℕ) → (j ≡ i → ⊥) → list_at (insert_before q i b t) j ≡ list_at q j
    others j e = get_or-set_other q i j (inserted b t (list_at q i)) [] e

    put : slice_index (set w t (suc i)) t ≡ suc i
    put = get_or-set_same w t (suc i) 0 (omega (arith, low, s.place_count))

    first_in : slice_index p b < length n
    first_in = let x = ring_in s i (slice_index p b) within from in omega (arith, x, s.next_count)

    linked : Linked (slice_index n) (slice_index p) (slice_index (set (set n (slice_index p b) t) t b)) (slice_index (set (set p t (slice_index p b)) b t)) b t
    linked = record {
      before = get_or-set_other (set n (slice_index p b) t) t (slice_index p b) b 0 (foreign i (slice_index p b) from) ∙ get_or-set_same n (slice_index p b) t 0 first_in;
      next = get_or-set_same (set n (slice_index p b) t) t b 0 (omega (arith, low, s.next_count, length-set n (slice_index p b) t));
      prev = get_or-set_other (set p t (slice_index p b)) b t t 0 (λ (f : t ≡ b). foreign i b there (sym f)) ∙ get_or-set_same p t (slice_index p b) 0 (omega (arith, low, s.prev_count));
      following = get_or-set_same (set p t (slice_index p b)) b t 0 (let x = ring_in s i b within there in omega (arith, x, s.prev_count, length-set p t (slice_index p b)));
      next_rest = λ k e f. get_or-set_other (set n (slice_index p b) t) t k b 0 f ∙ get_or-set_other n (slice_index p b) k t 0 e;
      prev_rest = λ k e f. get_or-set_other (set p t (slice_index p b)) b k t 0 f ∙ get_or-set_other p t k (slice_index p b) 0 e;
    }

    changed : IsChain (slice_index (set (set n (slice_index p b) t) t b)) (slice_index (set (set p t (slice_index p b)) b t)) (items + i) (inserted b t (list_at q i)) (items + i)
    changed = chain_insert (slice_index n) (slice_index p) _ _ b t (items + i) (list_at q i) (items + i) linked (s.chained i within) there (head_out s i, s.apart i) (head_out s i)
        (lacks_from t ((items + i) ∷ list_at q i) (λ (h : has t ((items + i) ∷ list_at q i) ≡ true). foreign i t h refl)) (λ (f : t ≡ items + i). omega (arith, f, low))

-- the same, with the place as the code writes it
pub sound_put : (items : ℕ) (n p w : List ℕ) (q : List (List ℕ)) (i b t : ℕ) → IsSound items n p w q → i < length q → t < items → slice_index w t ≡ 0 →
    has b ((items + i) ∷ list_at q i) ≡ true →
    IsSound items (set (set n (slice_index p b) t) t b) (set (set p t (slice_index p b)) b t) (set w t (i + 1)) (insert_before q i b t)
sound_put items n p w q i b t s within low free there =
    subst (λ (v : ℕ). IsSound items (set (set n (slice_index p b) t) t b) (set (set p t (slice_index p b)) b t) (set w t v) (insert_before q i b t)) (suc-eq-add-one i)
    (sound_insert items n p w q i b t s within low free there)

pub list_at-take_out : (q : List (List ℕ)) (t i : ℕ) → list_at (take_out q t) i ≡ without t (list_at q i)
list_at-take_out [] t i = refl
list_at-take_out (x ∷ q) t zero = refl
list_at-take_out (x ∷ q) t (suc i) = list_at-take_out q t i

-- an item is taken out, and leads to itself
pub sound_out : (items : ℕ) (n p w : List ℕ) (q : List (List ℕ)) (i t : ℕ) → IsSound items n p w q → slice_index w t ≡ suc i →
    IsSound items (set (set n (slice_index p t) (slice_index n t)) t t) (set p (slice_index n t) (slice_index p t)) (set w t 0) (take_out q t)
sound_out items n p w q i t s at = record {
  chained = λ j h.
      let inside : j < length q = subst (λ (k : ℕ). j < k) (length-map q (without t)) h in
      subst (λ (xs : List ℕ). IsChain (slice_index m) (slice_index r) (items + j) xs (items + j)) (sym (list_at-take_out q t j))
      (⊎_elim (λ (e : j ≡ i). subst (λ (k : ℕ). IsChain (slice_index m) (slice_index r) (items + k) (without t (list_at q k)) (items + k)) (sym e) changed)
      (λ (e : j ≡ i → ⊥).
      subst (λ (xs : List ℕ). IsChain (slice_index m) (slice_index r) (items + j) xs (items + j)) (sym (without_lacking t (list_at q j) (absent j e)))
      (frame (slice_index n) (slice_index p) (slice_index m) (slice_index r) (items + j) (list_at q j) (items + j)
      (λ k g. unlinked.next_rest k (λ (f : k ≡ slice_index p t). rings_apart s j i k e g (subst (λ (y : ℕ). has y ((items + i) ∷ list_at q i) ≡ true) (sym f) from))
      (λ (f : k ≡ t). rings_apart s j i k e g (subst (λ (y : ℕ). has y ((items + i) ∷ list_at q i) ≡ true) (sym f) in_it)))
      (λ k g. unlinked.prev_rest k (λ (f : k ≡ slice_index n t). rings_apart s j i k e g (subst (λ (y : ℕ). has y ((items + i) ∷ list_at q i) ≡ true) (sym f) to)))
      (s.chained j inside)))
      (cases_eq j i));
  apart = λ j. subst AreDistinct (sym (list_at-take_out q t j)) (distinct-without t (list_at q j) (s.apart j));
  stands = λ j u. ap (has u) (list_at-take_out q t j) ∙ has_without u t (list_at q j) ∙
      ⊎_elim (λ (f : u ≡ t). ap (λ (c : Bool). has u (list_at q j) && not c) (eq-eqb u t f) ∙ and_false (has u (list_at q j)) ∙
      sym (ne_eqb (slice_index (set w t 0) u) (suc j) (λ (g : slice_index (set w t 0) u ≡ suc j). let v = ap (slice_index (set w t 0)) f ∙ put in omega (arith, v, g))))
      (λ (f : u ≡ t → ⊥). ap (λ (c : Bool). has u (list_at q j) && not c) (ne_eqb u t f) ∙ and_true (has u (list_at q j)) ∙ s.stands j u ∙
      ap (λ (v : ℕ). nat_eq v (suc j)) (sym (get_or-set_other w t u 0 0 f)))
      (cases_eq u t);
  loose = λ u h e.
      ⊎_elim (λ (f : u ≡ t). subst (λ (k : ℕ). slice_index m k ≡ k) (sym f) own)
      (λ (f : u ≡ t → ⊥).
      let none : slice_index w u ≡ 0 = sym (get_or-set_other w t u 0 0 f) ∙ e in
      unlinked.next_rest u (λ (g : u ≡ slice_index p t). loose_apart s i u h none (subst (λ (y : ℕ). has y ((items + i) ∷ list_at q i) ≡ true) (sym g) from)) f
      ∙ s.loose u h none)
      (cases_eq u t);
  next_count = length-set (set n (slice_index p t) (slice_index n t)) t t ∙ length-set n (slice_index p t) (slice_index n t) ∙ s.next_count ∙ ap (λ (k : ℕ). items + k) (sym (length-map q (without t)));
  prev_count = length-set p (slice_index n t) (slice_index p t) ∙ s.prev_count ∙ ap (λ (k : ℕ). items + k) (sym (length-map q (without t)));
  place_count = length-set w t 0 ∙ s.place_count;
}
  where
    m : List ℕ
    m = set (set n (slice_index p t) (slice_index n t)) t t

    r : List ℕ
    r = set p (slice_index n t) (slice_index p t)

    and_false : (b : Bool) → (b && false) ≡ false
    and_false true = refl
    and_false false = refl

    and_true : (b : Bool) → (b && true) ≡ b
    and_true true = refl
    and_true false = refl

    there : has t (list_at q i) ≡ true
    there = s.stands i t ∙ eq-eqb (slice_index w t) (suc i) at

    within : i < length q
    within = list_in q i t there

    low : t < items
    low = item_in s i t there

    in_it : has t ((items + i) ∷ list_at q i) ≡ true
    in_it = has_there t (items + i) (list_at q i) there

    from : has (slice_index p t) ((items + i) ∷ list_at q i) ≡ true
    from = prev_in_ring s i t within in_it

    to : has (slice_index n t) ((items + i) ∷ list_at q i) ≡ true
    to = next_in_ring s i t within in_it

    absent : (j : ℕ) → (j ≡ i → ⊥) → has t (list_at q j) ≡ false
    absent j e = lacks_from t (list_at q j) (λ (h : has t (list_at q j) ≡ true). e (omega (arith, at, place_is s j t h)))

    put : slice_index (set w t 0) t ≡ 0
    put = get_or-set_same w t 0 0 (omega (arith, low, s.place_count))

    own : slice_index (set (set n (slice_index p t) (slice_index n t)) t t) t ≡ t
    own = get_or-set_same (set n (slice_index p t) (slice_index n t)) t t 0 (omega (arith, low, s.next_count, length-set n (slice_index p t) (slice_index n t)))

    before : slice_index p t ≡ t → ⊥
    before = prev_other (slice_index n) (slice_index p) (items + i) (list_at q i) (items + i) t (s.chained i within) (head_out s i, s.apart i) there

    unlinked : Unlinked (slice_index n) (slice_index p) (slice_index (set (set n (slice_index p t) (slice_index n t)) t t)) (slice_index (set p (slice_index n t) (slice_index p t))) t
    unlinked = record {
      over = get_or-set_other (set n (slice_index p t) (slice_index n t)) t (slice_index p t) t 0 before ∙ get_or-set_same n (slice_index p t) (slice_index n t) 0 (let x = ring_in s i (slice_index p t) within from in omega (arith, x, s.next_count));
      back = get_or-set_same p (slice_index n t) (slice_index p t) 0 (let x = ring_in s i (slice_index n t) within to in omega (arith, x, s.prev_count));
      next_rest = λ k e f. get_or-set_other (set n (slice_index p t) (slice_index n t)) t k t 0 f ∙ get_or-set_other n (slice_index p t) k (slice_index n t) 0 e;
      prev_rest = λ k e. get_or-set_other p (slice_index n t) k (slice_index p t) 0 e;
    }

    changed : IsChain (slice_index (set (set n (slice_index p t) (slice_index n t)) t t)) (slice_index (set p (slice_index n t) (slice_index p t))) (items + i) (without t (list_at q i)) (items + i)
    changed = chain_without (slice_index n) (slice_index p) _ _ t (items + i) (list_at q i) (items + i) unlinked (s.chained i within) there (head_out s i, s.apart i) (head_out s i)

list_at-replicate : (count i : ℕ) → list_at (replicate count []) i ≡ []
list_at-replicate zero i = refl
list_at-replicate (suc count) zero = refl
list_at-replicate (suc count) (suc i) = list_at-replicate count i

-- each head links to itself
pub sound_new : (items count : ℕ) (n p w : List ℕ) → length n ≡ items + count → length p ≡ items + count → length w ≡ items →
    ((k : ℕ) → k < items + count → slice_index n k ≡ k) → ((k : ℕ) → k < items + count → slice_index p k ≡ k) → ((t : ℕ) → slice_index w t ≡ 0) →
    IsSound items n p w (replicate count [])
sound_new items count n p w ln lp lw fn fp fw = record {
  chained = λ i h.
      let low : items + i < items + count = omega (arith, h, length-replicate {A = List ℕ} count []) in
      subst (λ (xs : List ℕ). IsChain (slice_index n) (slice_index p) (items + i) xs (items + i)) (sym (list_at-replicate count i)) (fn (items + i) low, fp (items + i) low);
  apart = λ i. subst AreDistinct (sym (list_at-replicate count i)) tt;
  stands = λ i t. ap (has t) (list_at-replicate count i) ∙ sym (ne_eqb (slice_index w t) (suc i) (λ (e : slice_index w t ≡ suc i). omega (arith, e, fw t)));
  loose = λ t h e. fn t (omega (arith, h));
  next_count = ln ∙ ap (λ (k : ℕ). items + k) (sym (length-replicate count []));
  prev_count = lp ∙ ap (λ (k : ℕ). items + k) (sym (length-replicate count []));
  place_count = lw;
}

pub first_is : {items : ℕ} {n p w : List ℕ} {q : List (List ℕ)} → IsSound items n p w q → (i : ℕ) → i < length q → item_at items (slice_index n (items + i)) ≡ first_of (list_at q i)
first_is {items} {n} {p} {w} {q} s i h = chain_first (slice_index n) (slice_index p) items (items + i) (list_at q i) (items + i) (s.chained i h) (λ u g. item_in s i u g) (omega arith)

pub first_at : {items : ℕ} {n p w : List ℕ} {q : List (List ℕ)} → IsSound items n p w q → (i : ℕ) → i < length q → slice_index n (items + i) < items →
    first_of (list_at q i) ≡ Some (slice_index n (items + i))
first_at {items} {n} s i h low = sym (first_is s i h) ∙ rw (lt-ltb (slice_index n (items + i)) items low) refl

pub first_none : {items : ℕ} {n p w : List ℕ} {q : List (List ℕ)} → IsSound items n p w q → (i : ℕ) → i < length q → items ≤ slice_index n (items + i) →
    first_of (list_at q i) ≡ None
first_none {items} {n} s i h high = sym (first_is s i h) ∙ rw (le-ltb (slice_index n (items + i)) items high) refl

pub first_there : (t : ℕ) (xs : List ℕ) → first_of xs ≡ Some t → has t xs ≡ true
first_there t [] f = cc
first_there t (x ∷ xs) f = let same : x ≡ t = cc in subst (λ (y : ℕ). has t (y ∷ xs) ≡ true) (sym same) (has_here t xs)

-- what was taken out stands nowhere
pub gone : (q : List (List ℕ)) (t i : ℕ) → has t (list_at (take_out q t) i) ≡ false
gone q t i = ap (has t) (list_at-take_out q t i) ∙ has_without t t (list_at q i) ∙ ap (λ (c : Bool). has t (list_at q i) && not c) (eq-eqb t t refl) ∙ none (has t (list_at q i))
  where
    none : (b : Bool) → (b && false) ≡ false
    none true = refl
    none false = refl

pub next_is : {items : ℕ} {n p w : List ℕ} {q : List (List ℕ)} → IsSound items n p w q → (i t : ℕ) (xs ys : List ℕ) → list_at q i ≡ xs ++ t ∷ ys →
    item_at items (slice_index n t) ≡ first_of ys
next_is {items} {n} {p} {w} {q} s i t xs ys e =
    let there : has t (list_at q i) ≡ true = ap (has t) e ∙ middle xs in
    chain_next (slice_index n) (slice_index p) items (items + i) xs t ys (items + i)
    (subst (λ (zs : List ℕ). IsChain (slice_index n) (slice_index p) (items + i) zs (items + i)) e (s.chained i (list_in q i t there)))
    (λ u g. item_in s i u (ap (has u) e ∙ g)) (omega arith)
  where
    middle : (xs : List ℕ) → has t (xs ++ t ∷ ys) ≡ true
    middle [] = has_here t ys
    middle (x ∷ xs) = has_there t x (xs ++ t ∷ ys) (middle xs)

pub few_in : {items : ℕ} {n p w : List ℕ} {q : List (List ℕ)} → IsSound items n p w q → (i : ℕ) → length (list_at q i) ≤ items
few_in {items} {q = q} s i = few (list_at q i) items (s.apart i) (λ u g. item_in s i u g)

-- the first item, taken out and put last
pub rotate_is : {items : ℕ} {n p w : List ℕ} {q : List (List ℕ)} → IsSound items n p w q → (i t : ℕ) → i < length q → first_of (list_at q i) ≡ Some t →
    push_last (take_out q t) i t ≡ set q i (rotated (list_at q i))
rotate_is {items} {n} {p} {w} {q} s i t within e =
    let there : has t (list_at q i) ≡ true = first_there t (list_at q i) e in
    ext_get_or [] (push_last (take_out q t) i t) (set q i (rotated (list_at q i)))
    (length-set (take_out q t) i (list_at (take_out q t) i ++ t ∷ []) ∙ length-map q (without t) ∙ sym (length-set q i (rotated (list_at q i))))
    (λ j h. ⊎_elim
    (λ (f : j ≡ i).
    subst (λ (k : ℕ). list_at (push_last (take_out q t) i t) k ≡ list_at (set q i (rotated (list_at q i))) k) (sym f)
    (get_or-set_same (take_out q t) i (list_at (take_out q t) i ++ t ∷ []) [] (omega (arith, within, length-map q (without t)))
    ∙ ap (λ (xs : List ℕ). xs ++ t ∷ []) (list_at-take_out q t i) ∙ turn (list_at q i) e (s.apart i)
    ∙ sym (get_or-set_same q i (rotated (list_at q i)) [] within)))
    (λ (f : j ≡ i → ⊥).
    get_or-set_other (take_out q t) i j (list_at (take_out q t) i ++ t ∷ []) [] f ∙ list_at-take_out q t j
    ∙ without_lacking t (list_at q j) (lacks_from t (list_at q j) (λ (g : has t (list_at q j) ≡ true). f (omega (arith, place_is s j t g, place_is s i t there))))
    ∙ sym (get_or-set_other q i j (rotated (list_at q i)) [] f))
    (cases_eq j i))
  where
    turn : (xs : List ℕ) → first_of xs ≡ Some t → AreDistinct xs → without t xs ++ t ∷ [] ≡ rotated xs
    turn [] f d = cc
    turn (x ∷ xs) f d =
        let same : x ≡ t = cc in
        subst (λ (y : ℕ). without t (y ∷ xs) ++ t ∷ [] ≡ xs ++ y ∷ []) (sym same)
        (rw (eq-eqb t t refl) (ap (λ (ys : List ℕ). ys ++ t ∷ []) (without_lacking t xs (subst (λ (y : ℕ). has y xs ≡ false) same d.0))))

pub rotate_none : (q : List (List ℕ)) (i : ℕ) → first_of (list_at q i) ≡ None → q ≡ set q i (rotated (list_at q i))
rotate_none q i e = sym (ap (set q i) (ap rotated (none (list_at q i) e) ∙ sym (none (list_at q i) e)) ∙ set-get_or q i [])
  where
    none : (xs : List ℕ) → first_of xs ≡ None → xs ≡ []
    none [] f = refl
    none (x ∷ xs) f = cc

-- the lists that the links lead to are such as the links are those of
pub settled : {items : ℕ} {n p w : List ℕ} {q : List (List ℕ)} → IsSound items n p w q → IsSound items n p w (lists_along items n)
settled {items} {n} {p} {w} {q} s = subst (λ (x : List (List ℕ)). IsSound items n p w x) (sym (lists_are s)) s

pub disjoint_from : {items : ℕ} {n p w : List ℕ} {q : List (List ℕ)} → IsSound items n p w q → AreDisjoint items q
disjoint_from s = record {
  apart = s.apart;
  one = λ i j t e f. omega (arith, place_is s i t e, place_is s j t f);
  small = λ i t e. item_in s i t e;
}

-- the links ahead are those of the lists
pub next_same : {items : ℕ} {n p w m r v : List ℕ} {q : List (List ℕ)} → IsSound items n p w q → IsSound items m r v q → n ≡ m
next_same {items} {n} {p} {w} {m} {r} {v} {q} s u =
    ext_get_or 0 n m (s.next_count ∙ sym u.next_count) (λ k h. by k (omega (arith, h, s.next_count)))
  where
    ring : (i k : ℕ) → i < length q → has k ((items + i) ∷ list_at q i) ≡ true → slice_index n k ≡ slice_index m k
    ring i k within e = chain_same (slice_index n) (slice_index p) (slice_index m) (slice_index r) (items + i) (list_at q i) (items + i) k (s.chained i within) (u.chained i within) e

    item : (k c : ℕ) → k < items → slice_index w k ≡ c → slice_index n k ≡ slice_index m k
    item k zero low e = s.loose k low e ∙ sym (u.loose k low (place_none u k (nowhere s k e)))
    item k (suc i) low e =
        let there : has k (list_at q i) ≡ true = s.stands i k ∙ eq-eqb (slice_index w k) (suc i) e in
        ring i k (list_in q i k there) (has_there k (items + i) (list_at q i) there)

    by : (k : ℕ) → k < items + length q → slice_index n k ≡ slice_index m k
    by k h =
        ⊎_elim (λ (low : k < items). item k (slice_index w k) low refl)
        (λ (high : items ≤ k).
        let head : k ≡ items + (k - items) = omega (arith, high) in
        ring (k - items) k (omega (arith, h, high)) (subst (λ (y : ℕ). has y ((items + (k - items)) ∷ list_at q (k - items)) ≡ true) (sym head)
        (has_here (items + (k - items)) (list_at q (k - items)))))
        (cases_lt k items)
