-- What lists of entries say of an item: where it counts, and its ticks left.
use Rattle.std.proofs.Common.{◌≡◌, ℕ, zero, suc, ◌+◌, ◌≤◌, Bool, true, false, cond, Option, Some, None, List, [], ◌∷◌, length, nat_eq, refl, sym, ap, ◌∙◌, subst, arith, ⊎_elim}
use Rattle.std.specs.Prelude.{is_some, slice_index}
use Rattle.std.specs.Option.{option_eq}
use Rattle.std.proofs.lemmas.Bool.{cases_eq, eq-eqb, ne_eqb}
use Rattle.std.proofs.lemmas.List.{length-map}
use Rattle.fmp_codes.specs.Numbers.{as_proc}
use Rattle.fmp_kernel_parts.specs.Lists as links
use Rattle.fmp_kernel_parts.specs.Lists.{has, first_of}
use Rattle.fmp_time.specs.Differences.{Entry, entries_at, has_entry, ticks_in, entries_from, entries_of, items_of, IsLeastIn}
use Rattle.fmp_time.specs.Left.{left_on, left_from, left_in, AreDisjoint}
use Rattle.fmp_time.proofs.Entries.{list_at-entries_of, has_entry-entries_of}
use Rattle.fmp_time.proofs.Leaving.{ticks_from}

-- an entry is there where it has ticks left
pub has_ticks : (k : ℕ) (es : List Entry) → has_entry k es ≡ is_some (ticks_in es k)
has_ticks k [] = refl
has_ticks k (e ∷ es) =
    ⊎_elim (λ (f : k ≡ e.0). rw (eq-eqb k e.0 f, eq-eqb e.0 k (sym f)) refl)
    (λ (f : k ≡ e.0 → ⊥). rw (ne_eqb k e.0 f, ne_eqb e.0 k (λ g. f (sym g))) (has_ticks k es)) (cases_eq k e.0)

pub no_ticks : (k : ℕ) (es : List Entry) → has_entry k es ≡ false → ticks_in es k ≡ None
no_ticks k es e = by (ticks_in es k) (sym (has_ticks k es) ∙ e)
  where
    by : (o : Option ℕ) → is_some o ≡ false → o ≡ None
    by None h = refl
    by (Some n) h = cc

-- ticks that an entry has
pub record Ticks (es : List Entry) (k : ℕ) : Type 0 where
  pub ticks : ℕ
  pub are : ticks_in es k ≡ Some ticks

pub some_ticks : (k : ℕ) (es : List Entry) → has_entry k es ≡ true → Ticks es k
some_ticks k es e = by (ticks_in es k) refl (sym (has_ticks k es) ∙ e)
  where
    by : (o : Option ℕ) → ticks_in es k ≡ o → is_some o ≡ true → Ticks es k
    by None f h = cc
    by (Some n) f h = record { ticks = n; are = f }

pub left_nowhere : (i : ℕ) (q : List (List Entry)) (k : ℕ) → ((j : ℕ) → has_entry k (entries_at q j) ≡ false) → left_from i q k ≡ None
left_nowhere i [] k h = refl
left_nowhere i (es ∷ q) k h =
    ap (λ (o : Option ℕ). left_on (as_proc (i + 1)) o (left_from (i + 1) q k)) (no_ticks k es (h 0)) ∙ left_nowhere (i + 1) q k (λ j. h (suc j))

-- it is found in the only list that has it
pub left_there : (i : ℕ) (q : List (List Entry)) (k j n : ℕ) → ticks_in (entries_at q j) k ≡ Some n → ((l : ℕ) → (l ≡ j → ⊥) → has_entry k (entries_at q l) ≡ false) →
    left_from i q k ≡ Some (record { processor = as_proc (i + j + 1); ticks = n })
left_there i [] k j n e h = cc
left_there i (es ∷ q) k zero n e h =
    ap (λ (o : Option ℕ). left_on (as_proc (i + 1)) o (left_from (i + 1) q k)) e ∙ ap (λ (m : ℕ). Some (record { processor = as_proc (m + 1); ticks = n })) (omega arith)
left_there i (es ∷ q) k (suc j) n e h =
    ap (λ (o : Option ℕ). left_on (as_proc (i + 1)) o (left_from (i + 1) q k)) (no_ticks k es (h 0 (λ f. omega (arith, f))))
    ∙ left_there (i + 1) q k j n e (λ l f. h (suc l) (λ g. f (omega (arith, g))))
    ∙ ap (λ (m : ℕ). Some (record { processor = as_proc (m + 1); ticks = n })) (omega arith)

pub items_of-entries_from : (d : ℕ → ℕ) (s : ℕ) (xs : List ℕ) → items_of (entries_from d s xs) ≡ xs
items_of-entries_from d s [] = refl
items_of-entries_from d s (x ∷ xs) = ap (λ (ys : List ℕ). x ∷ ys) (items_of-entries_from d (s + d x) xs)

pub disjoint-entries_of : (d : List ℕ) (q : List (List ℕ)) → length q ≡ 8 → links.AreDisjoint 128 q → AreDisjoint (entries_of d q)
disjoint-entries_of d q count h = record {
  count = length-map q (entries_from (slice_index d) 0) ∙ count;
  apart = λ i. subst links.AreDistinct (sym (ap items_of (list_at-entries_of d q i) ∙ items_of-entries_from (slice_index d) 0 (links.list_at q i))) (h.apart i);
  one = λ i j k e f. h.one i j k (sym (has_entry-entries_of d q k i) ∙ e) (sym (has_entry-entries_of d q k j) ∙ f);
  small = λ i k e. h.small i k (sym (has_entry-entries_of d q k i) ∙ e);
}

-- no entry has fewer ticks left than the first
ticks_after : (d : ℕ → ℕ) (s y : ℕ) (ys : List ℕ) (k m : ℕ) → ticks_in (entries_from d s (y ∷ ys)) k ≡ Some m → s + d y ≤ m
ticks_after d s y ys k m f =
    ⊎_elim (λ (g : y ≡ k).
    let same : Some (s + d y) ≡ Some m = sym (ap (λ (c : Bool). cond c (Some (s + d y)) (ticks_in (entries_from d (s + d y) ys) k)) (eq-eqb y k g)) ∙ f in
    let at : s + d y ≡ m = cc in omega (arith, at))
    (λ (g : y ≡ k → ⊥).
    (ticks_from d (s + d y) ys k m (sym (ap (λ (c : Bool). cond c (Some (s + d y)) (ticks_in (entries_from d (s + d y) ys) k)) (ne_eqb y k g)) ∙ f)).0)
    (cases_eq y k)

-- the first entry has the least ticks left
pub least_first : (d : ℕ → ℕ) (xs : List ℕ) (x : ℕ) → first_of xs ≡ Some x → IsLeastIn (entries_from d 0 xs) (Some (d x))
least_first d [] x e = cc
least_first d (y ∷ ys) x e = λ k m f.
    let same : y ≡ x = cc in
    let later = ticks_after d 0 y ys k m f in
    omega (arith, later, ap d same)

-- an item that stands in one list, by its links
pub place_entry : (d : List ℕ) (q : List (List ℕ)) (now : List (List Entry)) (k : ℕ) (place : Option ℕ) → entries_of d q ≡ now →
    ((i : ℕ) → has k (links.list_at q i) ≡ option_eq nat_eq place (Some i)) → (i : ℕ) → has_entry k (entries_at now i) ≡ option_eq nat_eq place (Some i)
place_entry d q now k place e h i = ap (λ (v : List (List Entry)). has_entry k (entries_at v i)) (sym e) ∙ has_entry-entries_of d q k i ∙ h i

pub left_none : (now : List (List Entry)) (k : ℕ) → ((i : ℕ) → has_entry k (entries_at now i) ≡ false) → left_in now k ≡ None
left_none now k h = left_nowhere 0 now k h

pub left_some : (now : List (List Entry)) (k j n : ℕ) → ((i : ℕ) → has_entry k (entries_at now i) ≡ nat_eq j i) → ticks_in (entries_at now j) k ≡ Some n →
    left_in now k ≡ Some (record { processor = as_proc (j + 1); ticks = n })
left_some now k j n h e =
    left_there 0 now k j n e (λ l f. h l ∙ ne_eqb j l (λ g. f (sym g))) ∙ ap (λ (m : ℕ). Some (record { processor = as_proc (m + 1); ticks = n })) (omega arith)

pub is_there : (now : List (List Entry)) (k j : ℕ) → ((i : ℕ) → has_entry k (entries_at now i) ≡ nat_eq j i) → is_some (left_in now k) ≡ true
is_there now k j h =
    let t = some_ticks k (entries_at now j) (h j ∙ eq-eqb j j refl) in
    ap is_some (left_some now k j t.ticks h t.are)
