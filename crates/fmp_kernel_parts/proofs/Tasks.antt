-- Lists of tasks against lists of items.
use Rattle.std.proofs.Common.{◌≡◌, ℕ, ◌+◌, ◌-◌, ◌<◌, ◌==◌, Bool, true, false, not, ◌||◌, ◌&&◌, cond, List, [], ◌∷◌, ◌++◌, filter, map, nat_eq, refl, sym, ap, ◌∙◌, arith, ⊎_elim}
use Rattle.std.specs.Option.{option_map}
use Rattle.std.proofs.lemmas.Bool.{cases_eq, eq-eqb, ne_eqb}
use Rattle.fmp_codes.specs.declared.numbers.Task.{Task}
use Rattle.fmp_codes.proofs.Same.{tasks_same}
use Rattle.fmp_kernel_parts.specs.Lists as links
use Rattle.fmp_kernel_parts.specs.Lists.{has, first_of}
use Rattle.fmp_kernel_parts.specs.Tasks.{task_at, has_task, without, inserted, AreDistinct}
use Rattle.fmp_kernel_parts.proofs.Having.{has_here, has_there, or_left, or_right}

pub number_at : (k : ℕ) → k < 64 → (task_at k).number ≡ k + 1
number_at k h = omega arith

pub task_is : (t : Task) (k : ℕ) → k + 1 ≡ t.number → task_at k ≡ t
task_is t k e = tasks_same (task_at k) t (let low = t.most in omega (arith, e, low, t.least))

same_test : (t : Task) (k x : ℕ) → k + 1 ≡ t.number → x < 64 → (t.number == (task_at x).number) ≡ nat_eq k x
same_test t k x e h =
    ⊎_elim (λ (f : k ≡ x). eq-eqb t.number (task_at x).number (omega (arith, e, f, number_at x h)) ∙ sym (eq-eqb k x f))
    (λ (f : k ≡ x → ⊥). ne_eqb t.number (task_at x).number (λ (g : t.number ≡ (task_at x).number). f (omega (arith, e, g, number_at x h))) ∙ sym (ne_eqb k x f))
    (cases_eq k x)

other_test : (t : Task) (k x : ℕ) → k + 1 ≡ t.number → x < 64 → ((task_at x).number == t.number) ≡ (x == k)
other_test t k x e h =
    ⊎_elim (λ (f : x ≡ k). eq-eqb (task_at x).number t.number (omega (arith, e, f, number_at x h)) ∙ sym (eq-eqb x k f))
    (λ (f : x ≡ k → ⊥). ne_eqb (task_at x).number t.number (λ (g : (task_at x).number ≡ t.number). f (omega (arith, e, g, number_at x h))) ∙ sym (ne_eqb x k f))
    (cases_eq x k)

pub has_task-map : (t : Task) (k : ℕ) (xs : List ℕ) → k + 1 ≡ t.number → ((u : ℕ) → has u xs ≡ true → u < 64) → has_task t (map task_at xs) ≡ has k xs
has_task-map t k [] e h = refl
has_task-map t k (x ∷ xs) e h = rw (same_test t k x e (h x (has_here x xs)), has_task-map t k xs e (λ u g. h u (has_there u x xs g))) refl

pub without-map : (t : Task) (k : ℕ) (xs : List ℕ) → k + 1 ≡ t.number → ((u : ℕ) → has u xs ≡ true → u < 64) → map task_at (links.without k xs) ≡ without t (map task_at xs)
without-map t k [] e h = refl
without-map t k (x ∷ xs) e h =
    let rest = without-map t k xs e (λ u g. h u (has_there u x xs g)) in
    rw (other_test t k x e (h x (has_here x xs)))
    (elim (x == k) as (λ (b : Bool). map task_at (cond (not b) (x ∷ links.without k xs) (links.without k xs)) ≡ cond (not b) (task_at x ∷ without t (map task_at xs)) (without t (map task_at xs)))
    [ true ↦ rest | false ↦ ap (λ (r : List Task). task_at x ∷ r) rest ])

pub gone_from : (t : Task) (ts : List Task) → has_task t (without t ts) ≡ false
gone_from t [] = refl
gone_from t (u ∷ us) =
    ⊎_elim (λ (f : t.number ≡ u.number). rw (eq-eqb u.number t.number (sym f)) (gone_from t us))
    (λ (f : t.number ≡ u.number → ⊥). rw (ne_eqb u.number t.number (λ g. f (sym g)), ne_eqb t.number u.number f) (gone_from t us)) (cases_eq t.number u.number)

pub without_lacking : (t : Task) (ts : List Task) → has_task t ts ≡ false → without t ts ≡ ts
without_lacking t [] h = refl
without_lacking t (u ∷ us) h =
    let out : u.number ≡ t.number → ⊥ = λ f. let yes : nat_eq t.number u.number ≡ true = eq-eqb t.number u.number (sym f) in let bad = or_left (nat_eq t.number u.number) (has_task t us) h in cc in
    rw (ne_eqb u.number t.number out) (ap (λ (r : List Task). u ∷ r) (without_lacking t us (or_right (nat_eq t.number u.number) (has_task t us) h)))

-- the items of tasks
pub items_are : (xs : List ℕ) → ((u : ℕ) → has u xs ≡ true → u < 64) → map (λ (t : Task). t.number - 1) (map task_at xs) ≡ xs
items_are [] h = refl
items_are (x ∷ xs) h =
    let at : (task_at x).number - 1 ≡ x = omega (arith, number_at x (h x (has_here x xs))) in
    ap (λ (y : ℕ). y ∷ map (λ (t : Task). t.number - 1) (map task_at xs)) at ∙ ap (λ (ys : List ℕ). x ∷ ys) (items_are xs (λ u g. h u (has_there u x xs g)))

-- equal tasks are of equal items
pub items_same : (xs ys : List ℕ) → ((u : ℕ) → has u xs ≡ true → u < 64) → ((u : ℕ) → has u ys ≡ true → u < 64) → map task_at xs ≡ map task_at ys → xs ≡ ys
items_same [] [] h i e = refl
items_same [] (y ∷ ys) h i e = cc
items_same (x ∷ xs) [] h i e = cc
items_same (x ∷ xs) (y ∷ ys) h i e =
    let first : task_at x ≡ task_at y = cc in
    let rest : map task_at xs ≡ map task_at ys = cc in
    let same : x ≡ y = omega (arith, ap (λ (t : Task). t.number) first, number_at x (h x (has_here x xs)), number_at y (i y (has_here y ys))) in
    ap (λ (z : ℕ). z ∷ xs) same ∙ ap (λ (zs : List ℕ). y ∷ zs) (items_same xs ys (λ u g. h u (has_there u x xs g)) (λ u g. i u (has_there u y ys g)) rest)

pub distinct-map : (xs : List ℕ) → ((u : ℕ) → has u xs ≡ true → u < 64) → links.AreDistinct xs → AreDistinct (map task_at xs)
distinct-map [] h d = tt
distinct-map (x ∷ xs) h d =
    let rest : (u : ℕ) → has u xs ≡ true → u < 64 = λ u g. h u (has_there u x xs g) in
    (has_task-map (task_at x) x xs (sym (number_at x (h x (has_here x xs)))) rest ∙ d.0, distinct-map xs rest d.1)

-- a task before another one
pub inserted-map : (b t : Task) (j k : ℕ) (xs : List ℕ) → j + 1 ≡ b.number → task_at k ≡ t → ((u : ℕ) → has u xs ≡ true → u < 64) → map task_at (links.inserted j k xs) ≡ inserted b t (map task_at xs)
inserted-map b t j k [] e f h = ap (λ (u : Task). u ∷ []) f
inserted-map b t j k (x ∷ xs) e f h =
    let rest = inserted-map b t j k xs e f (λ u g. h u (has_there u x xs g)) in
    rw (other_test b j x e (h x (has_here x xs)))
    (elim (x == j) as (λ (c : Bool). map task_at (cond c (k ∷ x ∷ xs) (x ∷ links.inserted j k xs)) ≡ cond c (t ∷ task_at x ∷ map task_at xs) (task_at x ∷ inserted b t (map task_at xs)))
    [ true ↦ ap (λ (u : Task). u ∷ task_at x ∷ map task_at xs) f | false ↦ ap (λ (us : List Task). task_at x ∷ us) rest ])

pub first_of-map : (xs : List ℕ) → first_of (map task_at xs) ≡ option_map task_at (first_of xs)
first_of-map [] = refl
first_of-map (x ∷ xs) = refl

-- the items of two parts of a list of tasks
pub record Parts (xs : List ℕ) (t : Task) (following : List Task) : Type 0 where
  pub before_items : List ℕ
  pub after_items : List ℕ
  pub whole : xs ≡ before_items ++ (t.number - 1) ∷ after_items
  pub after_is : map task_at after_items ≡ following

pub parts_of : (xs : List ℕ) (before following : List Task) (t : Task) → ((u : ℕ) → has u xs ≡ true → u < 64) → map task_at xs ≡ before ++ t ∷ following → Parts xs t following
parts_of [] [] following t h e = cc
parts_of [] (u ∷ before) following t h e = cc
parts_of (x ∷ xs) [] following t h e =
    let same : task_at x ≡ t = cc in
    let rest : map task_at xs ≡ following = cc in
    let at : x ≡ t.number - 1 = omega (arith, ap (λ (u : Task). u.number) same, number_at x (h x (has_here x xs))) in
    record { before_items = []; after_items = xs; whole = ap (λ (y : ℕ). y ∷ xs) at; after_is = rest }
parts_of (x ∷ xs) (u ∷ before) following t h e =
    let rest : map task_at xs ≡ before ++ t ∷ following = cc in
    let p = parts_of xs before following t (λ v g. h v (has_there v x xs g)) rest in
    record { before_items = x ∷ p.before_items; after_items = p.after_items; whole = ap (λ (ys : List ℕ). x ∷ ys) p.whole; after_is = p.after_is }

pub has_task-append : (u t : Task) (ts : List Task) → has_task u (ts ++ t ∷ []) ≡ (has_task u ts || (u.number == t.number))
has_task-append u t [] = elim (u.number == t.number) as (λ b. (b || false) ≡ (false || b)) [ true ↦ refl | false ↦ refl ]
has_task-append u t (x ∷ ts) = elim (u.number == x.number) as (λ b. (b || has_task u (ts ++ t ∷ [])) ≡ ((b || has_task u ts) || (u.number == t.number))) [ true ↦ refl | false ↦ has_task-append u t ts ]

-- a task is among those that a test of the number keeps where it is there and the test keeps it
has_kept : (u x : Task) (f : ℕ → Bool) (ts us : List Task) (b : Bool) → u.number ≡ x.number → f u.number ≡ b → has_task u us ≡ (has_task u ts && f u.number) → has_task u (cond b (x ∷ us) us) ≡ b
has_kept u x f ts us true e g ih = ap (λ (c : Bool). c || has_task u us) (eq-eqb u.number x.number e)
has_kept u x f ts us false e g ih = ih ∙ ap (λ (c : Bool). has_task u ts && c) g ∙ none (has_task u ts)
  where
    none : (b : Bool) → (b && false) ≡ false
    none true = refl
    none false = refl

pub has_task-filter : (u : Task) (f : ℕ → Bool) (ts : List Task) → has_task u (filter (λ t. f t.number) ts) ≡ (has_task u ts && f u.number)
has_task-filter u f [] = refl
has_task-filter u f (x ∷ ts) =
    let us = filter (λ (t : Task). f t.number) ts in
    let ih = has_task-filter u f ts in
    ⊎_elim (λ (e : u.number ≡ x.number).
    ap (λ (b : Bool). has_task u (cond b (x ∷ us) us)) (ap f (sym e)) ∙ has_kept u x f ts us (f u.number) e refl ih
    ∙ sym (ap (λ (c : Bool). (c || has_task u ts) && f u.number) (eq-eqb u.number x.number e)))
    (λ (e : u.number ≡ x.number → ⊥).
    elim (f x.number) as (λ (b : Bool). has_task u (cond b (x ∷ us) us) ≡ (has_task u ts && f u.number)) [
      | true ↦ ap (λ (c : Bool). c || has_task u us) (ne_eqb u.number x.number e) ∙ ih
      | false ↦ ih
    ] ∙ sym (ap (λ (c : Bool). (c || has_task u ts) && f u.number) (ne_eqb u.number x.number e)))
    (cases_eq u.number x.number)

pub has_task-without : (u t : Task) (ts : List Task) → has_task u (without t ts) ≡ (has_task u ts && not (u.number == t.number))
has_task-without u t ts = has_task-filter u (λ n. not (n == t.number)) ts
