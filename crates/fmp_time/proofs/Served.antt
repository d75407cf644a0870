-- What is served, by marks.
use Rattle.std.proofs.Common.{◌≡◌, ℕ, zero, suc, ◌+◌, ◌-◌, ◌<◌, ◌≤◌, ◌||◌, Bool, true, false, not, cond, List, [], ◌∷◌, ◌++◌, length, filter, map, take, drop, set, get_or, nat_eq, append_assoc, refl, sym, ap, ◌∙◌, subst, arith, lit≤, ⊎_elim}
use Rattle.std.proofs.lemmas.Bool.{cases_eq, eq-eqb, ne_eqb}
use Rattle.std.specs.List.{range_with_len}
use Rattle.std.specs.Prelude.{slice_index_or, None}
use Rattle.std.proofs.lemmas.List.{get_or-set_same, get_or-set_other, take_more, drop_more}
use Rattle.std.proofs.Math.Bool.{or-false, or-true}
use Rattle.fmp_codes.specs.declared.numbers.Proc.{Proc}
use Rattle.fmp_codes.specs.declared.numbers.Task.{Task}
use Rattle.fmp_kernel_parts.specs.Lists.{has}
use Rattle.fmp_kernel_parts.specs.Tasks.{has_task, without, AreDistinct}
use Rattle.fmp_kernel_parts.proofs.Having.{has_push, or_left, or_right}
use Rattle.fmp_kernel_parts.proofs.Tasks as tasks
use Rattle.fmp_time.specs.declared.item.Item.{Item}
use Rattle.fmp_time.specs.Times.{Times, place_of, item_at, wait_of, left_of, is_due, is_marked, handlers, marked_handlers, ticked, served}
use Rattle.fmp_time.specs.Differences.{Entry, entries_at, lowered, due, not_due, items_of}
use Rattle.fmp_time.specs.Left.{left_in, AreDisjoint}
use Rattle.fmp_time.specs.Shown.{table, times_of}
use Rattle.fmp_time.proofs.Tables.{at-table}
use Rattle.fmp_time.proofs.Lefts.{due-left}
use Rattle.fmp_time.proofs.Effects.{place-low, place-item_at, times_same, ticked_left}

-- one more item is marked
pub marked : (marks : List Bool) (xs : List ℕ) (t : ℕ) → length marks ≡ 128 → ((k : ℕ) → k < 128 → get_or marks k false ≡ has k xs) → (k : ℕ) → k < 128 → t < 128 →
    get_or (set marks t true) k false ≡ has k (xs ++ t ∷ [])
marked marks xs t l h k hk ht =
    ⊎_elim (λ (e : k ≡ t). ap (λ (j : ℕ). get_or (set marks t true) j false) e ∙ get_or-set_same marks t true false (omega (arith, ht, l))
    ∙ sym (has_push k t xs ∙ ap (λ (b : Bool). has k xs || b) (eq-eqb k t e) ∙ or-true (has k xs)))
    (λ (e : k ≡ t → ⊥). get_or-set_other marks t k true false e ∙ h k hk ∙ sym (has_push k t xs ∙ ap (λ (b : Bool). has k xs || b) (ne_eqb k t e) ∙ or-false (has k xs)))
    (cases_eq k t)

pub unmarked : (marks : List Bool) (xs : List ℕ) (t : ℕ) → ((k : ℕ) → k < 128 → get_or marks k false ≡ has k xs) → (k : ℕ) → k < 128 → 128 ≤ t → get_or marks k false ≡ has k (xs ++ t ∷ [])
unmarked marks xs t h k hk ht = h k hk ∙ sym (has_push k t xs ∙ ap (λ (b : Bool). has k xs || b) (ne_eqb k t (λ e. omega (arith, e, hk, ht))) ∙ or-false (has k xs))

module _ {X : Type 0} where
  pub filter_more : (p : X → Bool) (xs : List X) (k : X) → p k ≡ true → filter p (xs ++ k ∷ []) ≡ filter p xs ++ k ∷ []
  filter_more p [] k e = rw e refl
  filter_more p (x ∷ xs) k e = elim (p x) as (λ b. cond b (x ∷ filter p (xs ++ k ∷ [])) (filter p (xs ++ k ∷ [])) ≡ cond b (x ∷ filter p xs) (filter p xs) ++ k ∷ [])
      [ true ↦ ap (λ (ys : List X). x ∷ ys) (filter_more p xs k e) | false ↦ filter_more p xs k e ]

  pub filter_same : (p : X → Bool) (xs : List X) (k : X) → p k ≡ false → filter p (xs ++ k ∷ []) ≡ filter p xs
  filter_same p [] k e = rw e refl
  filter_same p (x ∷ xs) k e = elim (p x) as (λ b. cond b (x ∷ filter p (xs ++ k ∷ [])) (filter p (xs ++ k ∷ [])) ≡ cond b (x ∷ filter p xs) (filter p xs))
      [ true ↦ ap (λ (ys : List X). x ∷ ys) (filter_same p xs k e) | false ↦ filter_same p xs k e ]

  pub filter_append : (p : X → Bool) (xs ys : List X) → filter p (xs ++ ys) ≡ filter p xs ++ filter p ys
  filter_append p [] ys = refl
  filter_append p (x ∷ xs) ys = elim (p x) as (λ b. cond b (x ∷ filter p (xs ++ ys)) (filter p (xs ++ ys)) ≡ cond b (x ∷ filter p xs) (filter p xs) ++ filter p ys)
      [ true ↦ ap (λ (zs : List X). x ∷ zs) (filter_append p xs ys) | false ↦ filter_append p xs ys ]

  pub filter_agree : (p r : X → Bool) (xs : List X) → ((k : X) → p k ≡ r k) → filter p xs ≡ filter r xs
  filter_agree p r [] h = refl
  filter_agree p r (x ∷ xs) h = rw (h x, filter_agree p r xs h) refl

  pub filter_none : (p : X → Bool) (xs : List X) → ((k : X) → p k ≡ false) → filter p xs ≡ []
  filter_none p [] h = refl
  filter_none p (x ∷ xs) h = rw (h x) (filter_none p xs h)

  pub filter_all : (p : X → Bool) (xs : List X) → ((k : X) → p k ≡ true) → filter p xs ≡ xs
  filter_all p [] h = refl
  filter_all p (x ∷ xs) h = rw (h x) (ap (λ (ys : List X). x ∷ ys) (filter_all p xs h))

pub filter_map : {X Y : Type 0} (f : X → Y) (p : Y → Bool) (xs : List X) → filter p (map f xs) ≡ map f (filter (λ x. p (f x)) xs)
filter_map f p [] = refl
filter_map f p (x ∷ xs) = elim (p (f x)) as (λ b. cond b (f x ∷ filter p (map f xs)) (filter p (map f xs)) ≡ map f (cond b (x ∷ filter (λ x. p (f x)) xs) (filter (λ x. p (f x)) xs)))
    [ true ↦ ap (λ ys. f x ∷ ys) (filter_map f p xs) | false ↦ filter_map f p xs ]

pub filter_below : (p r : ℕ → Bool) (a n m : ℕ) → a + n ≤ m → ((k : ℕ) → k < m → p k ≡ r k) → filter p (range_with_len a n) ≡ filter r (range_with_len a n)
filter_below p r a zero m l h = refl
filter_below p r a (suc n) m l h = rw (h a (omega (arith, l)), filter_below p r (a + 1) n m (omega (arith, l)) h) refl

-- Waits that go.

-- a test of the number alone
pub keeps_none : (f : ℕ → Bool) (t : Task) (ts : List Task) → f t.number ≡ false → has_task t (filter (λ u. f u.number) ts) ≡ false
keeps_none f t [] e = refl
keeps_none f t (u ∷ us) e =
    ⊎_elim (λ (g : t.number ≡ u.number). ap (λ (b : Bool). has_task t (cond b (u ∷ filter (λ v. f v.number) us) (filter (λ v. f v.number) us))) (ap f (sym g) ∙ e) ∙ keeps_none f t us e)
    (λ (g : t.number ≡ u.number → ⊥).
    elim (f u.number) as (λ (b : Bool). has_task t (cond b (u ∷ filter (λ v. f v.number) us) (filter (λ v. f v.number) us)) ≡ false) [
      | true ↦ ap (λ (b : Bool). b || has_task t (filter (λ v. f v.number) us)) (ne_eqb t.number u.number g) ∙ keeps_none f t us e
      | false ↦ keeps_none f t us e
    ])
    (cases_eq t.number u.number)

without_mid : (t : Task) (ts us : List Task) → has_task t ts ≡ false → has_task t us ≡ false → without t (ts ++ t ∷ us) ≡ ts ++ us
without_mid t [] us h g = ap (λ (b : Bool). cond (not b) (t ∷ without t us) (without t us)) (eq-eqb t.number t.number refl) ∙ tasks.without_lacking t us g
without_mid t (x ∷ ts) us h g =
    let out : x.number ≡ t.number → ⊥ = λ f. let yes : nat_eq t.number x.number ≡ true = eq-eqb t.number x.number (sym f) in let bad = or_left (nat_eq t.number x.number) (has_task t ts) h in cc in
    rw (ne_eqb x.number t.number out) (ap (λ (r : List Task). x ∷ r) (without_mid t ts us (or_right (nat_eq t.number x.number) (has_task t ts) h) g))

distinct_drop : (n : ℕ) (ts : List Task) → AreDistinct ts → AreDistinct (drop n ts)
distinct_drop zero ts a = a
distinct_drop (suc n) [] a = tt
distinct_drop (suc n) (t ∷ ts) a = distinct_drop n ts a.1

-- a wait that the test takes goes
pub goes : (f : ℕ → Bool) (ts : List Task) (i : ℕ) (t : Task) → i < length ts → AreDistinct ts → f (get_or ts i t).number ≡ true →
    without (get_or ts i t) (filter (λ u. not (f u.number)) (take i ts) ++ drop i ts) ≡ filter (λ u. not (f u.number)) (take (i + 1) ts) ++ drop (i + 1) ts
goes f ts i t h a e =
    let u = get_or ts i t in
    let out : not (f (get_or ts i t).number) ≡ false = ap not e in
    let later : has_task (get_or ts i t) (drop (i + 1) ts) ≡ false = (subst AreDistinct (drop_more ts i t h) (distinct_drop i ts a)).0 in
    ap (λ (r : List Task). without u (filter (λ v. not (f v.number)) (take i ts) ++ r)) (drop_more ts i t h)
    ∙ without_mid u (filter (λ v. not (f v.number)) (take i ts)) (drop (i + 1) ts) (keeps_none (λ n. not (f n)) u (take i ts) out) later
    ∙ ap (λ (r : List Task). r ++ drop (i + 1) ts) (sym (ap (filter (λ v. not (f v.number))) (take_more ts i t h) ∙ filter_same (λ v. not (f v.number)) (take i ts) u out))

-- another one stays
pub stays : (f : ℕ → Bool) (ts : List Task) (i : ℕ) (t : Task) → i < length ts → f (get_or ts i t).number ≡ false →
    filter (λ u. not (f u.number)) (take i ts) ++ drop i ts ≡ filter (λ u. not (f u.number)) (take (i + 1) ts) ++ drop (i + 1) ts
stays f ts i t h e =
    let u = get_or ts i t in
    ap (λ (r : List Task). filter (λ v. not (f v.number)) (take i ts) ++ r) (drop_more ts i t h)
    ∙ sym (append_assoc (filter (λ v. not (f v.number)) (take i ts)) (u ∷ []) (drop (i + 1) ts))
    ∙ ap (λ (r : List Task). r ++ drop (i + 1) ts) (sym (ap (filter (λ v. not (f v.number))) (take_more ts i t h) ∙ filter_more (λ v. not (f v.number)) (take i ts) u (ap not e)))

-- The items of a tick.

pub range_push : (a n : ℕ) → range_with_len a (suc n) ≡ range_with_len a n ++ (a + n) ∷ []
range_push a zero = ap (λ (m : ℕ). m ∷ []) (omega arith)
range_push a (suc n) = ap (λ (r : List ℕ). a ∷ r) (range_push (a + 1) n ∙ ap (λ (m : ℕ). range_with_len (a + 1) n ++ m ∷ []) (omega arith))

-- the numbers from 64 on, up to one more
pub range_more : (k : ℕ) → 64 ≤ k → range_with_len 64 (k + 1 - 64) ≡ range_with_len 64 (k - 64) ++ k ∷ []
range_more k h =
    let next : k + 1 - 64 ≡ suc (k - 64) = omega (arith, h) in
    let last : 64 + (k - 64) ≡ k = omega (arith, h) in
    ap (range_with_len 64) next ∙ range_push 64 (k - 64) ∙ ap (λ (m : ℕ). range_with_len 64 (k - 64) ++ m ∷ []) last

handlers_are : handlers ≡ map item_at (range_with_len 64 64)
unfolding handlers
handlers_are = refl

pub waits_kept : (m : Times) (p : Proc) (marks : List Bool) → ((k : ℕ) → k < 128 → slice_index_or marks k false ≡ is_due p (slice_index_or m.left k None)) →
    filter (λ t. not (is_marked marks t)) m.waits ≡ filter (λ t. not (is_due p (left_of m (wait_of t)))) m.waits
waits_kept m p marks h = filter_agree _ _ m.waits (λ t. ap not (h (t.number - 1) (place-low (wait_of t))))

pub served_is : (m : Times) (p : Proc) (marks : List Bool) → ((k : ℕ) → k < 128 → slice_index_or marks k false ≡ is_due p (slice_index_or m.left k None)) →
    map wait_of (filter (is_marked marks) m.waits) ++ marked_handlers marks ≡ served m p
unfolding marked_handlers
served_is m p marks h =
    let due : Item → Bool = λ x. is_due p (left_of m x) in
    let waits : map wait_of (filter (is_marked marks) m.waits) ≡ filter due (map wait_of m.waits) =
    ap (map wait_of) (filter_agree (is_marked marks) (λ t. due (wait_of t)) m.waits (λ t. h (t.number - 1) (place-low (wait_of t)))) ∙ sym (filter_map wait_of due m.waits) in
    let others : map item_at (filter (λ k. slice_index_or marks k false) (range_with_len 64 64)) ≡ filter due handlers =
    ap (map item_at) (filter_below (λ k. slice_index_or marks k false) (λ k. due (item_at k)) 64 64 128 (lit≤ tt)
    (λ k l. h k l ∙ ap (λ (n : ℕ). is_due p (slice_index_or m.left n None)) (sym (place-item_at k l))))
    ∙ sym (filter_map item_at due (range_with_len 64 64)) ∙ ap (filter due) (sym handlers_are) in
    ap (λ (xs : List Item). xs ++ map item_at (filter (λ k. slice_index_or marks k false) (range_with_len 64 64))) waits ∙ ap (λ (xs : List Item). filter due (map wait_of m.waits) ++ xs) others
    ∙ sym (filter_append due (map wait_of m.waits) handlers)

-- nothing is due
pub none_served : (m : Times) (p : Proc) → ((k : ℕ) → k < 128 → is_due p (slice_index_or m.left k None) ≡ false) → served m p ≡ []
none_served m p h = filter_none (λ x. is_due p (left_of m x)) (map wait_of m.waits ++ handlers) (λ x. h (place_of x) (place-low x))

pub all_kept : (m : Times) (p : Proc) → ((k : ℕ) → k < 128 → is_due p (slice_index_or m.left k None) ≡ false) → filter (λ t. not (is_due p (left_of m (wait_of t)))) m.waits ≡ m.waits
all_kept m p h = filter_all (λ t. not (is_due p (left_of m (wait_of t)))) m.waits (λ t. ap not (h (t.number - 1) (place-low (wait_of t))))

-- the items of a processor's list that a tick takes out are those that are due
pub due_where : (q : List (List Entry)) (w : List Task) (p : Proc) → AreDisjoint q → (k : ℕ) → k < 128 →
    is_due p (slice_index_or (times_of q w).left k None) ≡ has k (items_of (due (lowered (entries_at q (p.number - 1)))))
due_where q w p d k h = ap (is_due p) (at-table (left_in q) k None h) ∙ due-left q d p k

-- after a tick: the lists of entries, and the waits that go on
pub ticked_is : (q r : List (List Entry)) (w v : List Task) (p : Proc) → AreDisjoint q → r ≡ set q (p.number - 1) (not_due (lowered (entries_at q (p.number - 1)))) →
    v ≡ filter (λ t. not (is_due p (left_of (times_of q w) (wait_of t)))) w → times_of r v ≡ ticked (times_of q w) p
ticked_is q r w v p d e f = times_same _ _ _ _ (ap (λ (s : List (List Entry)). table (left_in s)) e ∙ ticked_left q p d) f
