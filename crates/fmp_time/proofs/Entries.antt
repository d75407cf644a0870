-- The lists of entries_of after a change of one list of items.
use Rattle.std.proofs.Common.{◌≡◌, ℕ, zero, suc, ◌+◌, ◌-◌, ◌^◌, ◌<◌, true, false, Some, None, List, [], ◌∷◌, ◌++◌, length, set, refl, sym, ap, ◌∙◌, subst, arith, ⊎_elim}
use Rattle.std.specs.Prelude.{slice_index}
use Rattle.std.proofs.lemmas.Bool.{cases_eq}
use Rattle.std.proofs.lemmas.List.{get_or-set_same, get_or-set_other, length-set}
use Rattle.fmp_kernel_parts.specs.Lists as links
use Rattle.fmp_kernel_parts.specs.Lists.{has, inserted, AreDisjoint}
use Rattle.fmp_kernel_parts.proofs.Having.{ne}
use Rattle.fmp_time.specs.Differences.{Entry, entries_at, has_entry, sorted_in, entries_from, entries_of, sum_of, spot_in, rest_in, IsSummed}
use Rattle.fmp_time.proofs.Sums.{frame, frame_sum, spot_there, insert_some, insert_none, insert_some_total, insert_none_total}

pub list_at-entries_of : (d : List ℕ) (q : List (List ℕ)) (i : ℕ) → entries_at (entries_of d q) i ≡ entries_from (slice_index d) 0 (links.list_at q i)
list_at-entries_of d [] i = refl
list_at-entries_of d (x ∷ q) zero = refl
list_at-entries_of d (x ∷ q) (suc i) = list_at-entries_of d q i

has_entry-entries_from : (d : ℕ → ℕ) (k s : ℕ) (xs : List ℕ) → has_entry k (entries_from d s xs) ≡ has k xs
has_entry-entries_from d k s [] = refl
has_entry-entries_from d k s (x ∷ xs) = rw (has_entry-entries_from d k (s + d x) xs) refl

pub has_entry-entries_of : (d : List ℕ) (q : List (List ℕ)) (k i : ℕ) → has_entry k (entries_at (entries_of d q) i) ≡ has k (links.list_at q i)
has_entry-entries_of d q k i = ap (has_entry k) (list_at-entries_of d q i) ∙ has_entry-entries_from (slice_index d) k 0 (links.list_at q i)

rest_same : (d e : List ℕ) (q : List (List ℕ)) → ((j : ℕ) → entries_from (slice_index e) 0 (links.list_at q j) ≡ entries_from (slice_index d) 0 (links.list_at q j)) → entries_of e q ≡ entries_of d q
rest_same d e [] h = refl
rest_same d e (x ∷ q) h = rw (h 0) (ap (λ (r : List (List Entry)). entries_from (slice_index d) 0 x ∷ r) (rest_same d e q (λ j. h (suc j))))

pub entries_set : (d e : List ℕ) (q : List (List ℕ)) (i : ℕ) (ys : List ℕ) (zs : List Entry) → i < length q → entries_from (slice_index e) 0 ys ≡ zs →
    ((j : ℕ) → (j ≡ i → ⊥) → entries_from (slice_index e) 0 (links.list_at q j) ≡ entries_from (slice_index d) 0 (links.list_at q j)) → entries_of e (set q i ys) ≡ set (entries_of d q) i zs
entries_set d e [] i ys zs l here others = absurd (omega arith)
entries_set d e (x ∷ q) zero ys zs l here others = rw here (ap (λ (r : List (List Entry)). zs ∷ r) (rest_same d e q (λ j. others (suc j) (λ f. omega (arith, f)))))
entries_set d e (x ∷ q) (suc i) ys zs l here others =
    rw (others 0 (λ f. omega (arith, f))) (ap (λ (r : List (List Entry)). entries_from (slice_index d) 0 x ∷ r)
    (entries_set d e q i ys zs (omega arith) here (λ j n. others (suc j) (λ f. n (omega (arith, f))))))

-- a list was replaced, and the stored numbers of the others stayed
pub summed_set : (d e : List ℕ) (q : List (List ℕ)) (i : ℕ) (ys : List ℕ) → IsSummed d q → i < 8 → sum_of (slice_index e) ys < 2 ^ 64 →
    ((j : ℕ) → (j ≡ i → ⊥) → (u : ℕ) → has u (links.list_at q j) ≡ true → slice_index e u ≡ slice_index d u) → IsSummed e (set q i ys)
summed_set d e q i ys s l bound others =
    let same : links.list_at (set q i ys) i ≡ ys = get_or-set_same q i ys [] (omega (arith, l, s.count)) in
    let rest : (j : ℕ) → (j ≡ i → ⊥) → links.list_at (set q i ys) j ≡ links.list_at q j = λ j n. get_or-set_other q i j ys [] n in
    record {
      count = length-set q i ys ∙ s.count;
      bound = λ j. ⊎_elim (λ (f : j ≡ i). subst (λ (k : ℕ). sum_of (slice_index e) (links.list_at (set q i ys) k) < 2 ^ 64) (sym f) (subst (λ (xs : List ℕ). sum_of (slice_index e) xs < 2 ^ 64) (sym same) bound))
          (λ (n : j ≡ i → ⊥). subst (λ (xs : List ℕ). sum_of (slice_index e) xs < 2 ^ 64) (sym (rest j n))
          (subst (λ (m : ℕ). m < 2 ^ 64) (sym (frame_sum (slice_index d) (slice_index e) (links.list_at q j) (others j n))) (s.bound j))) (cases_eq j i);
    }

-- the stored numbers after k was put before b
writes_some : (d : List ℕ) (k b m : ℕ) → length d ≡ 128 → k < 128 → b < 128 → (k ≡ b → ⊥) →
    (slice_index (set (set d b (slice_index d b - m)) k m) k ≡ m) × (slice_index (set (set d b (slice_index d b - m)) k m) b ≡ slice_index d b - m) ×
    ((u : ℕ) → (u ≡ k → ⊥) → (u ≡ b → ⊥) → slice_index (set (set d b (slice_index d b - m)) k m) u ≡ slice_index d u)
writes_some d k b m l hk hb n = (
  get_or-set_same (set d b (slice_index d b - m)) k m 0 (omega (arith, hk, l, length-set d b (slice_index d b - m))),
  get_or-set_other (set d b (slice_index d b - m)) k b m 0 (λ f. n (sym f)) ∙ get_or-set_same d b (slice_index d b - m) 0 (omega (arith, hb, l)),
  λ u nk nb. get_or-set_other (set d b (slice_index d b - m)) k u m 0 nk ∙ get_or-set_other d b u (slice_index d b - m) 0 nb,
)

-- k comes before b, with n ticks left
pub some_summed : (d : List ℕ) (q : List (List ℕ)) (i k b n m : ℕ) → IsSummed d q → AreDisjoint 128 q → length d ≡ 128 → i < 8 → k < 128 → ((j : ℕ) → has k (links.list_at q j) ≡ false) →
    spot_in (slice_index d) n (links.list_at q i) ≡ Some b → m ≡ rest_in (slice_index d) n (links.list_at q i) →
    IsSummed (set (set d b (slice_index d b - m)) k m) (links.insert_before q i b k)
some_summed d q i k b n m s t l hi hk out spot rest =
    let there = spot_there (slice_index d) n (links.list_at q i) b spot in
    let w = writes_some d k b m l hk (t.small i b there) (λ (f : k ≡ b). ne b k (links.list_at q i) there (out i) (sym f)) in
    summed_set d (set (set d b (slice_index d b - m)) k m) q i (inserted b k (links.list_at q i)) s hi
    (subst (λ (x : ℕ). x < 2 ^ 64) (sym (insert_some_total (slice_index d) _ k b n (links.list_at q i) spot (w.0 ∙ rest) (w.1 ∙ ap (λ (x : ℕ). slice_index d b - x) rest) w.2 (out i) (t.apart i))) (s.bound i))
    (λ j other u h. w.2 u (λ (f : u ≡ k). ne u k (links.list_at q j) h (out j) f) (λ (f : u ≡ b). other (t.one j i b (subst (λ (x : ℕ). has x (links.list_at q j) ≡ true) f h) there)))

pub some_entries : (d : List ℕ) (q : List (List ℕ)) (i k b n m : ℕ) → IsSummed d q → AreDisjoint 128 q → length d ≡ 128 → i < 8 → k < 128 → ((j : ℕ) → has k (links.list_at q j) ≡ false) →
    spot_in (slice_index d) n (links.list_at q i) ≡ Some b → m ≡ rest_in (slice_index d) n (links.list_at q i) →
    entries_of (set (set d b (slice_index d b - m)) k m) (links.insert_before q i b k) ≡ set (entries_of d q) i (sorted_in k n (entries_at (entries_of d q) i))
some_entries d q i k b n m s t l hi hk out spot rest =
    let there = spot_there (slice_index d) n (links.list_at q i) b spot in
    let w = writes_some d k b m l hk (t.small i b there) (λ (f : k ≡ b). ne b k (links.list_at q i) there (out i) (sym f)) in
    entries_set d (set (set d b (slice_index d b - m)) k m) q i (inserted b k (links.list_at q i)) (sorted_in k n (entries_at (entries_of d q) i)) (omega (arith, hi, s.count))
    (insert_some (slice_index d) _ k b 0 n (links.list_at q i) spot (w.0 ∙ rest) (w.1 ∙ ap (λ (x : ℕ). slice_index d b - x) rest) w.2 (out i) (t.apart i)
    ∙ ap (λ (x : ℕ). sorted_in k x (entries_from (slice_index d) 0 (links.list_at q i))) (omega arith) ∙ ap (sorted_in k n) (sym (list_at-entries_of d q i)))
    (λ j other. frame (slice_index d) _ 0 (links.list_at q j)
    (λ u h. w.2 u (λ (f : u ≡ k). ne u k (links.list_at q j) h (out j) f) (λ (f : u ≡ b). other (t.one j i b (subst (λ (x : ℕ). has x (links.list_at q j) ≡ true) f h) there))))

-- k comes last, with n ticks left
pub none_summed : (d : List ℕ) (q : List (List ℕ)) (i k n m : ℕ) → IsSummed d q → length d ≡ 128 → i < 8 → k < 128 → n < 2 ^ 64 → ((j : ℕ) → has k (links.list_at q j) ≡ false) →
    spot_in (slice_index d) n (links.list_at q i) ≡ None → m ≡ rest_in (slice_index d) n (links.list_at q i) → IsSummed (set d k m) (links.push_last q i k)
none_summed d q i k n m s l hi hk most out spot rest =
    let own : slice_index (set d k m) k ≡ rest_in (slice_index d) n (links.list_at q i) = get_or-set_same d k m 0 (omega (arith, hk, l)) ∙ rest in
    let others : (u : ℕ) → (u ≡ k → ⊥) → slice_index (set d k m) u ≡ slice_index d u = λ u n. get_or-set_other d k u m 0 n in
    summed_set d (set d k m) q i (links.list_at q i ++ k ∷ []) s hi
    (subst (λ (x : ℕ). x < 2 ^ 64) (sym (insert_none_total (slice_index d) _ k n (links.list_at q i) spot own others (out i))) most)
    (λ j other u h. others u (λ (f : u ≡ k). ne u k (links.list_at q j) h (out j) f))

pub none_entries : (d : List ℕ) (q : List (List ℕ)) (i k n m : ℕ) → IsSummed d q → length d ≡ 128 → i < 8 → k < 128 → ((j : ℕ) → has k (links.list_at q j) ≡ false) →
    spot_in (slice_index d) n (links.list_at q i) ≡ None → m ≡ rest_in (slice_index d) n (links.list_at q i) →
    entries_of (set d k m) (links.push_last q i k) ≡ set (entries_of d q) i (sorted_in k n (entries_at (entries_of d q) i))
none_entries d q i k n m s l hi hk out spot rest =
    let own : slice_index (set d k m) k ≡ rest_in (slice_index d) n (links.list_at q i) = get_or-set_same d k m 0 (omega (arith, hk, l)) ∙ rest in
    let others : (u : ℕ) → (u ≡ k → ⊥) → slice_index (set d k m) u ≡ slice_index d u = λ u n. get_or-set_other d k u m 0 n in
    entries_set d (set d k m) q i (links.list_at q i ++ k ∷ []) (sorted_in k n (entries_at (entries_of d q) i)) (omega (arith, hi, s.count))
    (insert_none (slice_index d) _ k 0 n (links.list_at q i) spot own others (out i)
    ∙ ap (λ (x : ℕ). sorted_in k x (entries_from (slice_index d) 0 (links.list_at q i))) (omega arith) ∙ ap (sorted_in k n) (sym (list_at-entries_of d q i)))
    (λ j other. frame (slice_index d) _ 0 (links.list_at q j) (λ u h. others u (λ (f : u ≡ k). ne u k (links.list_at q j) h (out j) f)))
