-- The items in front that add nothing are those that are due.
use Rattle.std.proofs.Common.{◌≡◌, ℕ, ◌+◌, ◌-◌, ◌<◌, ◌≤◌, true, Some, None, List, [], ◌∷◌, length, set, refl, sym, ap, ◌∙◌, subst, arith, ⊎_elim}
use Rattle.std.specs.Prelude.{slice_index}
use Rattle.std.proofs.lemmas.Bool.{cases_eq, eq-eqb, ne_eqb}
use Rattle.std.proofs.lemmas.List.{get_or-set_same, get_or-set_other, length-set, length-map, ext_get_or, set-get_or}
use Rattle.fmp_kernel_parts.specs.Lists as links
use Rattle.fmp_kernel_parts.specs.Lists.{has, AreDistinct, AreDisjoint, first_of}
use Rattle.fmp_kernel_parts.proofs.Having as having
use Rattle.fmp_kernel_parts.proofs.Having.{has_here, lacks_from}
use Rattle.fmp_kernel_parts.proofs.Soundness.{list_at-take_out}
use Rattle.fmp_time.specs.Differences.{Entry, entries_at, lowered, due, not_due, entries_from, entries_of, sum_of, first_adding, zeros_of, rest_of, items_of, IsSummed}
use Rattle.fmp_time.proofs.Sums.{frame, adding_there, adding_adds, lower_adding, lower_none, fewer_total}
use Rattle.fmp_time.proofs.Entries.{list_at-entries_of, entries_set, summed_set}

none_due : (d : ℕ → ℕ) (s : ℕ) (xs : List ℕ) → 1 ≤ s → due (entries_from d s xs) ≡ []
none_due d s [] h = refl
none_due d s (x ∷ xs) h = rw (ne_eqb (s + d x) 0 (λ e. omega (arith, e, h))) (none_due d (s + d x) xs (omega (arith, h)))

all_stay : (d : ℕ → ℕ) (s : ℕ) (xs : List ℕ) → 1 ≤ s → not_due (entries_from d s xs) ≡ entries_from d s xs
all_stay d s [] h = refl
all_stay d s (x ∷ xs) h = rw (ne_eqb (s + d x) 0 (λ e. omega (arith, e, h))) (ap (λ (es : List Entry). (x, s + d x) ∷ es) (all_stay d (s + d x) xs (omega (arith, h))))

pub zeros_due : (d : ℕ → ℕ) (xs : List ℕ) → items_of (due (entries_from d 0 xs)) ≡ zeros_of d xs
zeros_due d [] = refl
zeros_due d (x ∷ xs) =
    ⊎_elim (λ (e : d x ≡ 0).
    let sum : 0 + d x ≡ 0 = omega (arith, e) in
    rw (sum, eq-eqb (d x) 0 e) (ap (λ (ys : List ℕ). x ∷ ys) (zeros_due d xs)))
    (λ (e : d x ≡ 0 → ⊥).
    rw (ne_eqb (0 + d x) 0 (λ f. e (omega (arith, f))), ne_eqb (d x) 0 e) (ap items_of (none_due d (0 + d x) xs (omega (arith, e)))))
    (cases_eq (d x) 0)

pub rest_stays : (d : ℕ → ℕ) (xs : List ℕ) → entries_from d 0 (rest_of d xs) ≡ not_due (entries_from d 0 xs)
rest_stays d [] = refl
rest_stays d (x ∷ xs) =
    ⊎_elim (λ (e : d x ≡ 0).
    let sum : 0 + d x ≡ 0 = omega (arith, e) in
    rw (sum, eq-eqb (d x) 0 e) (rest_stays d xs))
    (λ (e : d x ≡ 0 → ⊥).
    rw (ne_eqb (d x) 0 e, ne_eqb (0 + d x) 0 (λ f. e (omega (arith, f)))) (ap (λ (es : List Entry). (x, 0 + d x) ∷ es) (sym (all_stay d (0 + d x) xs (omega (arith, e))))))
    (cases_eq (d x) 0)

rest_total : (d : ℕ → ℕ) (xs : List ℕ) → sum_of d (rest_of d xs) ≤ sum_of d xs
rest_total d [] = omega arith
rest_total d (x ∷ xs) =
    ⊎_elim (λ (e : d x ≡ 0). rw (eq-eqb (d x) 0 e) (omega (arith, rest_total d xs))) (λ (e : d x ≡ 0 → ⊥). rw (ne_eqb (d x) 0 e) (omega arith)) (cases_eq (d x) 0)

-- the first item goes out
pub zeros_on : (d : ℕ → ℕ) (x : ℕ) (ys : List ℕ) → d x ≡ 0 → zeros_of d (x ∷ ys) ≡ x ∷ zeros_of d ys
zeros_on d x ys e = rw (eq-eqb (d x) 0 e) refl

pub rest_on : (d : ℕ → ℕ) (x : ℕ) (ys : List ℕ) → d x ≡ 0 → rest_of d (x ∷ ys) ≡ rest_of d ys
rest_on d x ys e = rw (eq-eqb (d x) 0 e) refl

pub zeros_end : (d : ℕ → ℕ) (x : ℕ) (ys : List ℕ) → (d x ≡ 0 → ⊥) → zeros_of d (x ∷ ys) ≡ []
zeros_end d x ys e = rw (ne_eqb (d x) 0 e) refl

pub rest_end : (d : ℕ → ℕ) (x : ℕ) (ys : List ℕ) → (d x ≡ 0 → ⊥) → rest_of d (x ∷ ys) ≡ x ∷ ys
rest_end d x ys e = rw (ne_eqb (d x) 0 e) refl

-- the items after the first
abbrev pub tail_of : List ℕ → List ℕ
tail_of [] = []
tail_of (x ∷ xs) = xs

pub first_is : (xs : List ℕ) (x : ℕ) → first_of xs ≡ Some x → xs ≡ x ∷ tail_of xs
first_is [] x e = cc
first_is (y ∷ ys) x e = let same : y ≡ x = cc in ap (λ (z : ℕ). z ∷ ys) same

pub no_first : (xs : List ℕ) → first_of xs ≡ None → xs ≡ []
no_first [] e = refl
no_first (y ∷ ys) e = cc

-- taking the first item of a list out leaves its tail, and the other lists
pub pop_is : (q : List (List ℕ)) (i x : ℕ) (ys : List ℕ) → AreDisjoint 128 q → i < length q → links.list_at q i ≡ x ∷ ys → links.take_out q x ≡ set q i ys
pop_is q i x ys t l e =
    let there : has x (links.list_at q i) ≡ true = subst (λ (zs : List ℕ). has x zs ≡ true) (sym e) (has_here x ys) in
    let a : AreDistinct (x ∷ ys) = subst AreDistinct e (t.apart i) in
    ext_get_or [] (links.take_out q x) (set q i ys) (length-map q (links.without x) ∙ sym (length-set q i ys))
    (λ j h. ⊎_elim
    (λ (f : j ≡ i). subst (λ (m : ℕ). links.list_at (links.take_out q x) m ≡ links.list_at (set q i ys) m) (sym f)
    (list_at-take_out q x i ∙ ap (links.without x) e ∙ rw (eq-eqb x x refl) (having.without_lacking x ys a.0) ∙ sym (get_or-set_same q i ys [] l)))
    (λ (n : j ≡ i → ⊥). list_at-take_out q x j
    ∙ having.without_lacking x (links.list_at q j) (lacks_from x (links.list_at q j) (λ (g : has x (links.list_at q j) ≡ true). n (t.one j i x g there)))
    ∙ sym (get_or-set_other q i j ys [] n))
    (cases_eq j i))

-- in the list i all have a tick less, of which x is the first that adds something
module _ (d : List ℕ) (q : List (List ℕ)) (i x : ℕ) (s : IsSummed d q) (t : AreDisjoint 128 q) (count : length d ≡ 128) (within : i < 8) (adding : first_adding (slice_index d) (links.list_at q i) ≡ Some x) where
  there : has x (links.list_at q i) ≡ true
  there = adding_there (slice_index d) (links.list_at q i) x adding

  pub small : x < 128
  small = t.small i x there

  pub positive : 1 ≤ slice_index d x
  positive = adding_adds (slice_index d) (links.list_at q i) x adding

  less : slice_index (set d x (slice_index d x - 1)) x ≡ slice_index d x - 1
  less = get_or-set_same d x (slice_index d x - 1) 0 (omega (arith, small, count))

  others : (u : ℕ) → (u ≡ x → ⊥) → slice_index (set d x (slice_index d x - 1)) u ≡ slice_index d u
  others u n = get_or-set_other d x u (slice_index d x - 1) 0 n

  elsewhere : (j : ℕ) → (j ≡ i → ⊥) → (u : ℕ) → has u (links.list_at q j) ≡ true → slice_index (set d x (slice_index d x - 1)) u ≡ slice_index d u
  elsewhere j n u h = others u (λ (f : u ≡ x). n (t.one j i u h (subst (λ (y : ℕ). has y (links.list_at q i) ≡ true) (sym f) there)))

  -- the list with that one lowered is the list lowered
  lower_is : entries_from (slice_index (set d x (slice_index d x - 1))) 0 (links.list_at q i) ≡ lowered (entries_at (entries_of d q) i)
  lower_is = lower_adding (slice_index d) (slice_index (set d x (slice_index d x - 1))) (links.list_at q i) x adding less others (t.apart i) ∙ ap lowered (sym (list_at-entries_of d q i))

  pub lower_entries : entries_of (set d x (slice_index d x - 1)) q ≡ set (entries_of d q) i (lowered (entries_at (entries_of d q) i))
  lower_entries = ap (entries_of (set d x (slice_index d x - 1))) (sym (set-get_or q i []))
      ∙ entries_set d (set d x (slice_index d x - 1)) q i _ _ (omega (arith, within, s.count)) lower_is
      (λ j n. frame (slice_index d) _ 0 (links.list_at q j) (elsewhere j n))

  pub lower_summed : IsSummed (set d x (slice_index d x - 1)) q
  lower_summed = record {
    count = s.count;
    bound = λ j. let most = s.bound j in
        let fewer = fewer_total (slice_index d) (slice_index (set d x (slice_index d x - 1))) (links.list_at q j)
        (λ u. ⊎_elim (λ (f : u ≡ x). subst (λ (v : ℕ). slice_index (set d x (slice_index d x - 1)) v ≤ slice_index d v) (sym f) (omega (arith, less))) (λ (f : u ≡ x → ⊥). omega (arith, others u f)) (cases_eq u x)) in
        omega (arith, most, fewer);
  }

-- in the list i nobody has a tick left
pub idle_entries : (d : List ℕ) (q : List (List ℕ)) (i : ℕ) → first_adding (slice_index d) (links.list_at q i) ≡ None → entries_of d q ≡ set (entries_of d q) i (lowered (entries_at (entries_of d q) i))
idle_entries d q i none =
    sym (ap (set (entries_of d q) i) (ap lowered (list_at-entries_of d q i) ∙ lower_none (slice_index d) (links.list_at q i) none ∙ sym (list_at-entries_of d q i)) ∙ set-get_or (entries_of d q) i [])

-- the items of the list i go that have no ticks left
module _ (d : List ℕ) (q : List (List ℕ)) (i : ℕ) (s : IsSummed d q) (within : i < 8) where
  pub rest_entries : entries_of d (set q i (rest_of (slice_index d) (links.list_at q i))) ≡ set (entries_of d q) i (not_due (entries_at (entries_of d q) i))
  rest_entries = entries_set d d q i _ _ (omega (arith, within, s.count)) (rest_stays (slice_index d) (links.list_at q i) ∙ ap not_due (sym (list_at-entries_of d q i))) (λ j n. refl)

  pub rest_summed : IsSummed d (set q i (rest_of (slice_index d) (links.list_at q i)))
  rest_summed = summed_set d d q i _ s within (let fewer = rest_total (slice_index d) (links.list_at q i) in omega (arith, fewer, s.bound i)) (λ j n u h. refl)

  pub rest_due : zeros_of (slice_index d) (links.list_at q i) ≡ items_of (due (entries_at (entries_of d q) i))
  rest_due = sym (zeros_due (slice_index d) (links.list_at q i)) ∙ ap (λ (es : List Entry). items_of (due es)) (sym (list_at-entries_of d q i))

  -- where the first one has a tick left, the lists stay
  module _ (x : ℕ) (first : first_of (links.list_at q i) ≡ Some x) (some : 0 < slice_index d x) where
    whole : links.list_at q i ≡ x ∷ tail_of (links.list_at q i)
    whole = first_is (links.list_at q i) x first

    quiet_lists : set q i (rest_of (slice_index d) (links.list_at q i)) ≡ q
    quiet_lists = ap (set q i) (ap (rest_of (slice_index d)) whole ∙ rest_end (slice_index d) x (tail_of (links.list_at q i)) (λ e. omega (arith, e, some)) ∙ sym whole) ∙ set-get_or q i []

    pub quiet_entries : entries_of d q ≡ set (entries_of d q) i (not_due (entries_at (entries_of d q) i))
    quiet_entries = ap (entries_of d) (sym quiet_lists) ∙ rest_entries

    pub quiet_due : [] ≡ items_of (due (entries_at (entries_of d q) i))
    quiet_due = sym (ap (zeros_of (slice_index d)) whole ∙ zeros_end (slice_index d) x (tail_of (links.list_at q i)) (λ e. omega (arith, e, some))) ∙ rest_due

-- an empty list
pub empty_is : (d : List ℕ) (q : List (List ℕ)) (i : ℕ) → first_of (links.list_at q i) ≡ None → entries_at (entries_of d q) i ≡ []
empty_is d q i e = list_at-entries_of d q i ∙ ap (entries_from (slice_index d) 0) (no_first (links.list_at q i) e)
