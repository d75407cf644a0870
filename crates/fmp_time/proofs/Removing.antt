-- An item is taken out, and the one after it gains what it has added.
use Rattle.std.proofs.Common.{◌≡◌, ℕ, suc, ◌+◌, ◌^◌, ◌<◌, ◌≤◌, true, false, Some, None, List, [], ◌∷◌, ◌++◌, length, set, refl, sym, ap, ◌∙◌, subst, arith, ⊎_elim}
use Rattle.std.specs.Prelude.{slice_index}
use Rattle.std.proofs.lemmas.Bool.{cases_eq, eq-eqb, ne_eqb}
use Rattle.std.proofs.lemmas.List.{get_or-set_same, get_or-set_other, length-map}
use Rattle.fmp_kernel_parts.specs.Lists as links
use Rattle.fmp_kernel_parts.specs.Lists.{has, AreDistinct, AreDisjoint, first_of}
use Rattle.fmp_kernel_parts.proofs.Having as having
use Rattle.fmp_kernel_parts.proofs.Having.{has_here, has_there, has_after, lacks_from, ne}
use Rattle.fmp_kernel_parts.proofs.Soundness.{list_at-take_out, first_there}
use Rattle.fmp_time.specs.Differences.{Entry, entries_at, has_entry, without, take_out, entries_from, entries_of, sum_of, IsSummed}
use Rattle.fmp_time.proofs.Entries.{has_entry-entries_of}
use Rattle.fmp_time.proofs.Sums.{frame, frame_sum, remove_sums, without_lacking}

-- what is in a list parts it
pub record Parts (xs : List ℕ) (t : ℕ) : Type 0 where
  pub before : List ℕ
  pub following : List ℕ
  pub whole : xs ≡ before ++ t ∷ following

pub parts_of : (xs : List ℕ) (t : ℕ) → has t xs ≡ true → Parts xs t
parts_of [] t h = cc
parts_of (x ∷ xs) t h =
    ⊎_elim (λ (e : t ≡ x). record { before = []; following = xs; whole = ap (λ (y : ℕ). y ∷ xs) (sym e) })
    (λ (e : t ≡ x → ⊥). let p = parts_of xs t (has_after t x xs e h) in record { before = x ∷ p.before; following = p.following; whole = ap (λ (ys : List ℕ). x ∷ ys) p.whole })
    (cases_eq t x)

pub parts_in : (d : List ℕ) (q : List (List ℕ)) (now : List (List Entry)) (k i : ℕ) → entries_of d q ≡ now → has_entry k (entries_at now i) ≡ true → Parts (links.list_at q i) k
parts_in d q now k i e h = parts_of (links.list_at q i) k (sym (has_entry-entries_of d q k i) ∙ ap (λ (v : List (List Entry)). has_entry k (entries_at v i)) e ∙ h)

pub there_in : (d : List ℕ) (q : List (List ℕ)) (now : List (List Entry)) (k i : ℕ) → entries_of d q ≡ now → has_entry k (entries_at now i) ≡ true → has k (links.list_at q i) ≡ true
there_in d q now k i e h = sym (has_entry-entries_of d q k i) ∙ ap (λ (v : List (List Entry)). has_entry k (entries_at v i)) e ∙ h

later : (u : ℕ) (ys xs : List ℕ) → has u ys ≡ true → has u (xs ++ ys) ≡ true
later u ys [] h = h
later u ys (z ∷ xs) h = has_there u z (xs ++ ys) (later u ys xs h)

pub after_in : (xs : List ℕ) (k b : ℕ) (before following : List ℕ) → xs ≡ before ++ k ∷ following → first_of following ≡ Some b → has b xs ≡ true
after_in xs k b before following e f = subst (λ (ys : List ℕ). has b ys ≡ true) (sym e) (later b (k ∷ following) before (has_there b k following (first_there b following f)))

parted : (k : ℕ) (before following : List ℕ) → AreDistinct (before ++ k ∷ following) → links.without k (before ++ k ∷ following) ≡ before ++ following
parted k [] following a = rw (eq-eqb k k refl) (having.without_lacking k following a.0)
parted k (x ∷ before) following a =
    rw (ne_eqb x k (λ (f : x ≡ k). ne k x (before ++ k ∷ following) (later k (k ∷ following) before (has_here k following)) a.0 (sym f)))
    (ap (λ (ys : List ℕ). x ∷ ys) (parted k before following a.1))

-- two neighbours add no more than all do
pub two_most : (d : ℕ → ℕ) (k b : ℕ) (before following : List ℕ) → first_of following ≡ Some b → d b + d k ≤ sum_of d (before ++ k ∷ following)
two_most d k b [] [] f = cc
two_most d k b [] (y ∷ ys) f = let same : y ≡ b = cc in omega (arith, ap d same)
two_most d k b (x ∷ before) following f = omega (arith, two_most d k b before following f)

-- the stored numbers gain what k has added
pub record Gains (d e : ℕ → ℕ) (k : ℕ) (following : List ℕ) : Type 0 where
  pub gain : (b : ℕ) → first_of following ≡ Some b → e b ≡ d b + d k
  pub others : (u : ℕ) → (first_of following ≡ Some u → ⊥) → e u ≡ d u

remove_total : (d e : ℕ → ℕ) (k : ℕ) (before following : List ℕ) → Gains d e k following → AreDistinct (before ++ k ∷ following) → sum_of e (before ++ following) ≤ sum_of d (before ++ k ∷ following)
remove_total d e k [] [] g a = omega arith
remove_total d e k [] (b ∷ ys) g a =
    let rest = frame_sum d e ys (λ u h. g.others u (λ (f : Some b ≡ Some u). let same : b ≡ u = cc in ne u b ys h a.1.0 (sym same))) in
    omega (arith, rest, g.gain b refl)
remove_total d e k (x ∷ before) following g a =
    let same : e x ≡ d x = g.others x (λ (f : first_of following ≡ Some x). ne x x (before ++ k ∷ following) (later x (k ∷ following) before (has_there x k following (first_there x following f))) a.0 refl) in
    omega (arith, same, remove_total d e k before following g a.1)

absent : (q : List (List ℕ)) (i j k : ℕ) → AreDisjoint 128 q → has k (links.list_at q i) ≡ true → (j ≡ i → ⊥) → has k (links.list_at q j) ≡ false
absent q i j k t h n = lacks_from k (links.list_at q j) (λ (g : has k (links.list_at q j) ≡ true). n (t.one j i k g h))

stays : (d e : List ℕ) (q : List (List ℕ)) (i k : ℕ) (before following : List ℕ) → AreDisjoint 128 q → links.list_at q i ≡ before ++ k ∷ following → Gains (slice_index d) (slice_index e) k following →
    (j : ℕ) → (j ≡ i → ⊥) → (u : ℕ) → has u (links.list_at q j) ≡ true → slice_index e u ≡ slice_index d u
stays d e q i k before following t whole g j n u h =
    g.others u (λ (f : first_of following ≡ Some u). n (t.one j i u h (after_in (links.list_at q i) k u before following whole f)))

entries_map : (d e : List ℕ) (q : List (List ℕ)) (k : ℕ) → ((j : ℕ) → entries_from (slice_index e) 0 (links.without k (links.list_at q j)) ≡ without k (entries_from (slice_index d) 0 (links.list_at q j))) →
    entries_of e (links.take_out q k) ≡ take_out (entries_of d q) k
entries_map d e [] k h = refl
entries_map d e (x ∷ q) k h = rw (h 0) (ap (λ (r : List (List Entry)). without k (entries_from (slice_index d) 0 x) ∷ r) (entries_map d e q k (λ j. h (suc j))))

pub removed_entries : (d e : List ℕ) (q : List (List ℕ)) (i k : ℕ) (before following : List ℕ) → AreDisjoint 128 q → links.list_at q i ≡ before ++ k ∷ following → Gains (slice_index d) (slice_index e) k following →
    entries_of e (links.take_out q k) ≡ take_out (entries_of d q) k
removed_entries d e q i k before following t whole g =
    let there : has k (links.list_at q i) ≡ true = subst (λ (ys : List ℕ). has k ys ≡ true) (sym whole) (later k (k ∷ following) before (has_here k following)) in
    let a : AreDistinct (before ++ k ∷ following) = subst AreDistinct whole (t.apart i) in
    entries_map d e q k (λ j. ⊎_elim
    (λ (f : j ≡ i). subst (λ (m : ℕ). entries_from (slice_index e) 0 (links.without k (links.list_at q m)) ≡ without k (entries_from (slice_index d) 0 (links.list_at q m))) (sym f)
    (subst (λ (xs : List ℕ). entries_from (slice_index e) 0 (links.without k xs) ≡ without k (entries_from (slice_index d) 0 xs)) (sym whole)
    (ap (entries_from (slice_index e) 0) (parted k before following a) ∙ remove_sums (slice_index d) (slice_index e) k 0 before following g.gain g.others a)))
    (λ (n : j ≡ i → ⊥).
    let out = absent q i j k t there n in
    ap (entries_from (slice_index e) 0) (having.without_lacking k (links.list_at q j) out) ∙ frame (slice_index d) (slice_index e) 0 (links.list_at q j) (stays d e q i k before following t whole g j n)
    ∙ sym (without_lacking (slice_index d) k 0 (links.list_at q j) out))
    (cases_eq j i))

pub removed_summed : (d e : List ℕ) (q : List (List ℕ)) (i k : ℕ) (before following : List ℕ) → IsSummed d q → AreDisjoint 128 q → links.list_at q i ≡ before ++ k ∷ following →
    Gains (slice_index d) (slice_index e) k following → IsSummed e (links.take_out q k)
removed_summed d e q i k before following s t whole g =
    let there : has k (links.list_at q i) ≡ true = subst (λ (ys : List ℕ). has k ys ≡ true) (sym whole) (later k (k ∷ following) before (has_here k following)) in
    let a : AreDistinct (before ++ k ∷ following) = subst AreDistinct whole (t.apart i) in
    let here : links.list_at (links.take_out q k) i ≡ before ++ following = list_at-take_out q k i ∙ ap (links.without k) whole ∙ parted k before following a in
    let rest : (j : ℕ) → (j ≡ i → ⊥) → links.list_at (links.take_out q k) j ≡ links.list_at q j = λ j n. list_at-take_out q k j ∙ having.without_lacking k (links.list_at q j) (absent q i j k t there n) in
    record {
      count = length-map q (links.without k) ∙ s.count;
      bound = λ j. ⊎_elim
          (λ (f : j ≡ i). subst (λ (m : ℕ). sum_of (slice_index e) (links.list_at (links.take_out q k) m) < 2 ^ 64) (sym f)
          (subst (λ (xs : List ℕ). sum_of (slice_index e) xs < 2 ^ 64) (sym here)
          (le_lt (remove_total (slice_index d) (slice_index e) k before following g a) (subst (λ (xs : List ℕ). sum_of (slice_index d) xs < 2 ^ 64) whole (s.bound i)))))
          (λ (n : j ≡ i → ⊥). subst (λ (xs : List ℕ). sum_of (slice_index e) xs < 2 ^ 64) (sym (rest j n))
          (subst (λ (m : ℕ). m < 2 ^ 64) (sym (frame_sum (slice_index d) (slice_index e) (links.list_at q j) (stays d e q i k before following t whole g j n))) (s.bound j)))
          (cases_eq j i);
    }
  where
    le_lt : {a b c : ℕ} → a ≤ b → b < c → a < c
    le_lt {a} {b} {c} h l = omega (arith, h, l)

-- nothing has_entry after k
pub gains_none : (d : List ℕ) (k : ℕ) (following : List ℕ) → first_of following ≡ None → Gains (slice_index d) (slice_index d) k following
gains_none d k following e = record { gain = λ b f. let bad : None ≡ Some b = sym e ∙ f in cc; others = λ u f. refl }

-- b has_entry after k
gains_some : (d : List ℕ) (k b : ℕ) (following : List ℕ) → b < length d → first_of following ≡ Some b → Gains (slice_index d) (slice_index (set d b (slice_index d b + slice_index d k))) k following
gains_some d k b following l e = record {
  gain = λ c f. let same : Some b ≡ Some c = sym e ∙ f in let at : b ≡ c = cc in
      subst (λ (m : ℕ). slice_index (set d b (slice_index d b + slice_index d k)) m ≡ slice_index d m + slice_index d k) at (get_or-set_same d b (slice_index d b + slice_index d k) 0 l);
  others = λ u f. get_or-set_other d b u (slice_index d b + slice_index d k) 0 (λ (h : u ≡ b). f (e ∙ ap Some (sym h)));
}

-- the item after k in its list gains
pub gains_next : (d : List ℕ) (q : List (List ℕ)) (i k b : ℕ) (p : Parts (links.list_at q i) k) → AreDisjoint 128 q → length d ≡ 128 → first_of p.following ≡ Some b →
    Gains (slice_index d) (slice_index (set d b (slice_index d b + slice_index d k))) k p.following
gains_next d q i k b p t count f =
    let low = t.small i b (after_in (links.list_at q i) k b p.before p.following p.whole f) in
    gains_some d k b p.following (omega (arith, low, count)) f
