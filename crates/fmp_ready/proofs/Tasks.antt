-- The lists of tasks against the lists of items.
use Rattle.std.proofs.Common.{◌≡◌, ℕ, zero, suc, ◌+◌, ◌-◌, ◌*◌, ◌<◌, ◌≤◌, true, false, Some, None, List, [], ◌∷◌, ◌++◌, map, option_map, take, drop, set, refl, sym, ap, ◌∙◌, subst, arith, ⊎_elim}
use Rattle.std.proofs.lemmas.Bool.{cases_lt}
use Rattle.std.proofs.lemmas.List.{map_push, get_or-take, get_or-drop, get_or_past, length-take}
use Rattle.fmp_codes.specs.declared.numbers.Task.{Task}
use Rattle.fmp_kernel_parts.specs.Lists as links
use Rattle.fmp_kernel_parts.specs.Lists.{has}
use Rattle.fmp_kernel_parts.specs.Tasks.{AreDistinct, has_task, task_at, without}
use Rattle.fmp_kernel_parts.proofs.Tasks.{items_are, items_same, distinct-map, first_of-map, gone_from, has_task-map, without-map, without_lacking}
use Rattle.fmp_ready.specs.Queues.{PriorityLists, queue_at, push_last, take_out, rotated, first_of, top_at, bit_of, items_in, AreDisjoint}
use Rattle.fmp_ready.specs.Kept.{tasks_of}

pub list_at-tasks_of : (q : List (List ℕ)) (i : ℕ) → queue_at (tasks_of q) i ≡ map task_at (links.list_at q i)
list_at-tasks_of [] i = refl
list_at-tasks_of (x ∷ q) zero = refl
list_at-tasks_of (x ∷ q) (suc i) = list_at-tasks_of q i

-- equal lists of tasks are of equal lists of items
pub lists_same : (q r : List (List ℕ)) → ((i u : ℕ) → has u (links.list_at q i) ≡ true → u < 64) → ((i u : ℕ) → has u (links.list_at r i) ≡ true → u < 64) →
    tasks_of q ≡ tasks_of r → q ≡ r
lists_same [] [] h i e = refl
lists_same [] (y ∷ r) h i e = cc
lists_same (x ∷ q) [] h i e = cc
lists_same (x ∷ q) (y ∷ r) h i e =
    let first : map task_at x ≡ map task_at y = cc in
    let rest : tasks_of q ≡ tasks_of r = cc in
    ap (λ (z : List ℕ). z ∷ q) (items_same x y (h 0) (i 0) first) ∙ ap (λ (z : List (List ℕ)). y ∷ z) (lists_same q r (λ j. h (suc j)) (λ j. i (suc j)) rest)

-- the items are those of the tasks
pub items_told : (q : List (List ℕ)) → ((i u : ℕ) → has u (links.list_at q i) ≡ true → u < 64) → items_in (tasks_of q) ≡ q
items_told [] h = refl
items_told (x ∷ q) h = ap (λ (z : List ℕ). z ∷ items_in (tasks_of q)) (items_are x (h 0)) ∙ ap (λ (z : List (List ℕ)). x ∷ z) (items_told q (λ j. h (suc j)))

pub first_in : (q : List (List ℕ)) (i : ℕ) → links.first_of (queue_at (tasks_of q) i) ≡ option_map task_at (links.first_of (links.list_at q i))
first_in q i = ap links.first_of (list_at-tasks_of q i) ∙ first_of-map (links.list_at q i)

pub set_tasks : (q : List (List ℕ)) (i : ℕ) (xs : List ℕ) → tasks_of (set q i xs) ≡ set (tasks_of q) i (map task_at xs)
set_tasks [] i xs = refl
set_tasks (x ∷ q) zero xs = refl
set_tasks (x ∷ q) (suc i) xs = ap (λ (r : List (List Task)). map task_at x ∷ r) (set_tasks q i xs)

pub push_tasks : (q : List (List ℕ)) (i k : ℕ) (t : Task) → task_at k ≡ t → tasks_of (links.push_last q i k) ≡ push_last (tasks_of q) i t
push_tasks q i k t e =
    set_tasks q i (links.list_at q i ++ k ∷ []) ∙ ap (set (tasks_of q) i) (map_push task_at (links.list_at q i) k ∙ ap (λ (u : Task). map task_at (links.list_at q i) ++ u ∷ []) e
    ∙ ap (λ (xs : List Task). xs ++ t ∷ []) (sym (list_at-tasks_of q i)))

pub rotate_tasks : (q : List (List ℕ)) (i : ℕ) → tasks_of (set q i (links.rotated (links.list_at q i))) ≡ set (tasks_of q) i (rotated (queue_at (tasks_of q) i))
rotate_tasks q i = set_tasks q i (links.rotated (links.list_at q i)) ∙ ap (set (tasks_of q) i) (turn (links.list_at q i) ∙ ap rotated (sym (list_at-tasks_of q i)))
  where
    turn : (xs : List ℕ) → map task_at (links.rotated xs) ≡ rotated (map task_at xs)
    turn [] = refl
    turn (x ∷ xs) = map_push task_at xs x

pub has_task-tasks_of : (q : List (List ℕ)) (t : Task) (k i : ℕ) → k + 1 ≡ t.number → ((i u : ℕ) → has u (links.list_at q i) ≡ true → u < 64) → has_task t (queue_at (tasks_of q) i) ≡ has k (links.list_at q i)
has_task-tasks_of q t k i e h = ap (has_task t) (list_at-tasks_of q i) ∙ has_task-map t k (links.list_at q i) e (h i)

pub remove_tasks : (q : List (List ℕ)) (t : Task) (k : ℕ) → k + 1 ≡ t.number → ((i u : ℕ) → has u (links.list_at q i) ≡ true → u < 64) → tasks_of (links.take_out q k) ≡ take_out (tasks_of q) t
remove_tasks [] t k e h = refl
remove_tasks (x ∷ q) t k e h =
    rw (without-map t k x e (h 0)) (ap (λ (r : List (List Task)). without t (map task_at x) ∷ r) (remove_tasks q t k e (λ i u g. h (suc i) u g)))

-- what was taken out stands nowhere, and taking out what stands nowhere changes nothing
pub gone : (q : List (List Task)) (t : Task) (i : ℕ) → has_task t (queue_at (take_out q t) i) ≡ false
gone [] t i = refl
gone (x ∷ q) t zero = gone_from t x
gone (x ∷ q) t (suc i) = gone q t i

pub take_out-lacking : (q : List (List Task)) (t : Task) → ((i : ℕ) → has_task t (queue_at q i) ≡ false) → take_out q t ≡ q
take_out-lacking [] t h = refl
take_out-lacking (x ∷ q) t h = rw (without_lacking t x (h 0)) (ap (λ (r : List (List Task)). x ∷ r) (take_out-lacking q t (λ i. h (suc i))))

pub take_out-twice : (q : List (List Task)) (t : Task) → take_out (take_out q t) t ≡ take_out q t
take_out-twice q t = take_out-lacking (take_out q t) t (gone q t)

-- lists of items are disjoint as lists of tasks
pub disjoint-tasks_of : (q : List (List ℕ)) → links.AreDisjoint 64 q → AreDisjoint (tasks_of q)
disjoint-tasks_of q d = record {
  apart = λ i. subst AreDistinct (sym (list_at-tasks_of q i)) (distinct-map (links.list_at q i) (d.small i) (d.apart i));
  one = λ i j t e f. d.one i j (t.number - 1) (sym (item t i) ∙ e) (sym (item t j) ∙ f);
}
  where
    item : (t : Task) (i : ℕ) → has_task t (queue_at (tasks_of q) i) ≡ has (t.number - 1) (links.list_at q i)
    item t i = has_task-tasks_of q t (t.number - 1) i (let low = t.least in omega (arith, low)) d.small

-- the first of some lists
first_at : (qs : List (List Task)) (k : ℕ) (t : Task) (ts : List Task) → ((j : ℕ) → j < k → queue_at qs j ≡ []) → queue_at qs k ≡ t ∷ ts → first_of qs ≡ Some t
first_at [] k t ts none e = cc
first_at ([] ∷ qs) zero t ts none e = cc
first_at ((u ∷ us) ∷ qs) zero t ts none e = let same : u ≡ t = cc in ap Some same
first_at ([] ∷ qs) (suc k) t ts none e = first_at qs k t ts (λ j h. none (suc j) (omega (arith, h))) e
first_at ((u ∷ us) ∷ qs) (suc k) t ts none e = let bad : u ∷ us ≡ [] = none 0 (omega arith) in cc

first_none : (qs : List (List Task)) → ((j : ℕ) → queue_at qs j ≡ []) → first_of qs ≡ None
first_none [] none = refl
first_none ([] ∷ qs) none = first_none qs (λ j. none (suc j))
first_none ((u ∷ us) ∷ qs) none = let bad : u ∷ us ≡ [] = none 0 in cc

list_at-window : (q : List (List ℕ)) (p j : ℕ) → j < 32 → queue_at (take 32 (drop (32 * p) (tasks_of q))) j ≡ map task_at (links.list_at q (32 * p + j))
list_at-window q p j h = get_or-take 32 (drop (32 * p) (tasks_of q)) j [] h ∙ get_or-drop (32 * p) (tasks_of q) j [] ∙ list_at-tasks_of q (32 * p + j)

pub top_some : (q : List (List ℕ)) (k x i : ℕ) → k < 32 → ((j : ℕ) → j < k → links.list_at q (32 * i + j) ≡ []) → links.first_of (links.list_at q (32 * i + k)) ≡ Some x →
    top_at (tasks_of q) i ≡ Some (task_at x)
top_some q k x i h none first = by (links.list_at q (32 * i + k)) refl first
  where
    by : (xs : List ℕ) → links.list_at q (32 * i + k) ≡ xs → links.first_of xs ≡ Some x → first_of (take 32 (drop (32 * i) (tasks_of q))) ≡ Some (task_at x)
    by [] s f = cc
    by (y ∷ ys) s f =
        let same : y ≡ x = cc in
        first_at (take 32 (drop (32 * i) (tasks_of q))) k (task_at x) (map task_at ys) (λ j l. list_at-window q i j (omega (arith, l, h)) ∙ ap (map task_at) (none j l))
        (list_at-window q i k h ∙ ap (map task_at) s ∙ ap (λ (z : ℕ). task_at z ∷ map task_at ys) same)

pub top_none : (q : List (List ℕ)) (i : ℕ) → ((j : ℕ) → j < 32 → links.list_at q (32 * i + j) ≡ []) → top_at (tasks_of q) i ≡ None
top_none q i none =
    let qs = take 32 (drop (32 * i) (tasks_of q)) in
    first_none qs (λ j. ⊎_elim (λ (h : j < 32). list_at-window q i j h ∙ ap (map task_at) (none j h))
    (λ (h : 32 ≤ j). get_or_past qs j [] (omega (arith, h, length-take 32 (drop (32 * i) (tasks_of q))))) (cases_lt j 32))

pub bit_tasks : (q : List (List ℕ)) (i : ℕ) → bit_of (queue_at (tasks_of q) i) ≡ bit_of (links.list_at q i)
bit_tasks q i = ap bit_of (list_at-tasks_of q i) ∙ by (links.list_at q i)
  where
    by : (xs : List ℕ) → bit_of (map task_at xs) ≡ bit_of xs
    by [] = refl
    by (x ∷ xs) = refl

pub queues_same : (a b : List (List Task)) → a ≡ b → ◌≡◌ {A = PriorityLists} (record { lists = a }) (record { lists = b })
queues_same a b e = ap the e
  where
    the : List (List Task) → PriorityLists
    the l = record { lists = l }

pub empty_from_bit : (xs : List ℕ) → bit_of xs ≡ 0 → xs ≡ []
empty_from_bit [] e = refl
empty_from_bit (x ∷ xs) e = cc

pub full_from_bit : (xs : List ℕ) → bit_of xs ≡ 1 → links.first_of xs ≡ None → ⊥
full_from_bit [] e f = cc
full_from_bit (x ∷ xs) e f = cc
