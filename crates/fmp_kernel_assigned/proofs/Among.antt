-- Those whose time is over, among so many.
use Rattle.std.proofs.Common.{◌≡◌, ℕ, zero, suc, ◌+◌, ◌-◌, ◌<◌, ◌≤◌, ◌&&◌, Bool, true, false, cond, Option, Some, None, List, [], ◌∷◌, ◌++◌, length, map, filter, get_or, refl, sym, ap, ◌∙◌, arith, ⊎_elim, append-nil}
use Rattle.std.specs.Prelude.{option_map, nat_lt}
use Rattle.std.specs.List.{range_with_len}
use Rattle.std.proofs.lemmas.Bool.{cases_lt, lt-ltb, le-ltb}
use Rattle.std.proofs.lemmas.List.{get_or_past}
use Rattle.std.proofs.lemmas.List.FromFn.{filter_of_map_range_with_len_more}
use Rattle.fmp_codes.specs.Numbers.{as_object}
use Rattle.fmp_codes.specs.declared.numbers.Object.{Object}
use Rattle.fmp_rules.specs.Tick.{is_over, expired, tasks_expired}
use Rattle.fmp_rules.specs.World.{item}
use Rattle.fmp_time.specs.Left as time
use Rattle.fmp_time.specs.Left.{Left, ticks_of}
use Rattle.fmp_time.specs.Times.{Times, all_objects, wait_of, left_of}
use Rattle.fmp_kernel_assigned.specs.Assignments.{lefts}
use Rattle.fmp_kernel_assigned.proofs.Lefts.{length-lefts, lefts-at}

filter_both : {X : Type 0} (p q r : X → Bool) (xs : List X) → ((x : X) → r x ≡ (p x && q x)) → filter p (filter q xs) ≡ filter r xs
filter_both p q r [] h = refl
filter_both p q r (x ∷ xs) h =
    let ih = filter_both p q r xs h in
    rw (h x) (elim (q x) as (λ (b : Bool). filter p (cond b (x ∷ filter q xs) (filter q xs)) ≡ cond (p x && b) (x ∷ filter r xs) (filter r xs)) [
      | true ↦ elim (p x) as (λ (c : Bool). cond c (x ∷ filter p (filter q xs)) (filter p (filter q xs)) ≡ cond (c && true) (x ∷ filter r xs) (filter r xs)) [ true ↦ ap (λ (ys : List _). x ∷ ys) ih | false ↦ ih ]
      | false ↦ elim (p x) as (λ (c : Bool). filter p (filter q xs) ≡ cond (c && false) (x ∷ filter r xs) (filter r xs)) [ true ↦ ih | false ↦ ih ]
    ])

over_same : (l : Option Left) → time.is_over l ≡ is_over (option_map ticks_of l)
over_same None = refl
over_same (Some l) = refl

-- an item of the timers is over and among so many where its count is over
pub over_among : (left : List (Option Left)) (place n i : ℕ) → is_over (get_or (lefts left place n) i None) ≡ (nat_lt i n && time.is_over (get_or left (place + i) None))
over_among left place n i =
    ⊎_elim (λ (h : i < n). ap is_over (lefts-at left place n i h) ∙ sym (ap (λ (b : Bool). b && time.is_over (get_or left (place + i) None)) (lt-ltb i n h) ∙ over_same (get_or left (place + i) None)))
    (λ (h : n ≤ i). ap is_over (get_or_past (lefts left place n) i None (omega (arith, h, length-lefts left place n))) ∙ sym (ap (λ (b : Bool). b && time.is_over (get_or left (place + i) None)) (le-ltb i n h)))
    (cases_lt i n)

pub waits_over : (m : Times) (n : ℕ) → filter (λ t. nat_lt (t.number - 1) n) (filter (λ t. time.is_over (left_of m (wait_of t))) m.waits) ≡ tasks_expired (lefts m.left 0 n) m.waits
waits_over m n = filter_both _ _ _ m.waits (λ t. over_among m.left 0 n (t.number - 1) ∙ ap (λ (k : ℕ). nat_lt (t.number - 1) n && time.is_over (get_or m.left k None)) (omega arith))

-- past the last one there is none
beyond : (r : Object → Bool) (n : ℕ) → ((o : Object) → n ≤ o.number - 1 → r o ≡ false) → (k : ℕ) → n + k ≤ 32 →
    filter r (map as_object (range_with_len 1 (n + k))) ≡ filter r (map as_object (range_with_len 1 n))
beyond r n none zero h = ap (λ (i : ℕ). filter r (map as_object (range_with_len 1 i))) (omega arith)
beyond r n none (suc k) h =
    let next : n + suc k ≡ n + k + 1 = omega arith in
    ap (λ (i : ℕ). filter r (map as_object (range_with_len 1 i))) next
    ∙ filter_of_map_range_with_len_more r as_object 1 (n + k) (n + k + 1) (omega arith)
    ∙ ap (λ (b : Bool). filter r (map as_object (range_with_len 1 (n + k))) ++ cond b (as_object (n + k + 1) ∷ []) []) (none (as_object (n + k + 1)) (omega (arith, h)))
    ∙ append-nil (filter r (map as_object (range_with_len 1 (n + k)))) ∙ beyond r n none k (omega (arith, h))

first_objects : (r : Object → Bool) (n : ℕ) → ((o : Object) → n ≤ o.number - 1 → r o ≡ false) → n ≤ 32 → filter r all_objects ≡ filter r (map as_object (range_with_len 1 n))
unfolding all_objects
first_objects r n none h =
    let all : 32 ≡ n + (32 - n) = omega (arith, h) in
    ap (λ (i : ℕ). filter r (map as_object (range_with_len 1 i))) all ∙ beyond r n none (32 - n) (omega (arith, h))

pub objects_over : {X : Type 0} (left : List (Option Left)) (place : ℕ) (xs : List X) → length xs ≤ 32 →
    filter (λ o. nat_lt (o.number - 1) (length xs)) (filter (λ o. time.is_over (get_or left (place + (o.number - 1)) None)) all_objects) ≡ expired (lefts left place (length xs)) xs
objects_over left place xs few =
    filter_both _ _ (λ (o : Object). is_over (item None (lefts left place (length xs)) o.number)) all_objects (λ o. over_among left place (length xs) (o.number - 1))
    ∙ first_objects _ (length xs) (λ o h. ap is_over (get_or_past (lefts left place (length xs)) (o.number - 1) None (omega (arith, h, length-lefts left place (length xs))))) few
