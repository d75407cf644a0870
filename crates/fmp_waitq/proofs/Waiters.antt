-- Waiters against tasks and their ranks.
use Rattle.std.proofs.Common.{◌≡◌, ℕ, ◌-◌, ◌<◌, ◌≤◌, ◌+◌, ◌==◌, ◌||◌, ◌&&◌, Bool, true, false, not, cond, Option, Some, None, List, [], ◌∷◌, ◌++◌, length, map, set, replicate, refl, sym, ap, ◌∙◌, subst, arith, ⊎_elim}
use Rattle.std.specs.Prelude.{nat_lt, slice_index}
use Rattle.std.specs.List.{list_any}
use Rattle.std.proofs.lemmas.Bool.{cases_eq, cases_lt, eq-eqb, ne_eqb, lt-ltb, le-ltb, and_parts, eqb-true}
use Rattle.std.proofs.lemmas.List.{ext_get_or, get_or-set_same, get_or-set_other, length-set, length-replicate}
use Rattle.std.proofs.lemmas.Map.Views.{any-filter_same}
use Rattle.fmp_codes.proofs.Counters.{zeros}
use Rattle.fmp_codes.specs.declared.numbers.Task.{Task}
use Rattle.fmp_codes.specs.declared.numbers.Pri.{Pri}
use Rattle.fmp_setup.specs.declared.setup.Order.{Order}
use Rattle.fmp_setup.specs.declared.setup.Order.TheVariants as order
use Rattle.fmp_kernel_parts.specs.Tasks.{task_at, has_task, without, inserted}
use Rattle.fmp_kernel_parts.proofs.Tasks.{number_at, has_task-without}
use Rattle.fmp_waitq.specs.Queue.{Waiter, Queue, task_of, has_waiter, left_by, put_ranked, rank_of, waiter_of}
use Rattle.fmp_waitq.specs.Kept.{rank_in, waiter_in, spot_in, AreRanks}

pub queue_same : (o : Order) (es fs : List Waiter) → es ≡ fs → ◌≡◌ {A = Queue} (record { order = o; waiters = es }) (record { order = o; waiters = fs })
queue_same o es fs e = ap (the o) e
  where
    the : Order → List Waiter → Queue
    the o es = record { order = o; waiters = es }

pub has_waiter-map : (r : List ℕ) (t : Task) (ts : List Task) → has_waiter t (map (waiter_in r) ts) ≡ has_task t ts
has_waiter-map r t [] = refl
has_waiter-map r t (u ∷ us) = ap (λ (b : Bool). (t.number == u.number) || b) (has_waiter-map r t us)

-- the queue of some tasks with their ranks
abbrev pub queue_of : Order → List ℕ → List Task → Queue
queue_of o r ts = record { order = o; waiters = map (waiter_in r) ts }

pub is_absent : (o : Order) (r : List ℕ) (ts : List Task) (now : Queue) (t : Task) → queue_of o r ts ≡ now → has_waiter t now.waiters ≡ false → has_task t ts ≡ false
is_absent o r ts now t e h = sym (has_waiter-map r t ts) ∙ ap (λ (q : Queue). has_waiter t q.waiters) e ∙ h

-- a task has joined
pub joined_is : (o : Order) (r s : List ℕ) (ts us : List Task) (now : Queue) (t : Task) (p : Pri) (n : ℕ) → queue_of o r ts ≡ now → rank_of o p ≡ n →
    map (waiter_in s) us ≡ put_ranked (record { task = t; rank = n }) (map (waiter_in r) ts) →
    queue_of o s us ≡ record { order = now.order; waiters = put_ranked (waiter_of now.order t p) now.waiters }
joined_is o r s ts us now t p n e f h =
    queue_same o _ _ (h ∙ ap (λ (m : ℕ). put_ranked (record { task = t; rank = m }) (map (waiter_in r) ts)) (sym f))
    ∙ ap (λ (q : Queue). record { order = q.order; waiters = put_ranked (waiter_of q.order t p) q.waiters }) e

pub left_by-map : (r : List ℕ) (t : Task) (ts : List Task) → left_by t (map (waiter_in r) ts) ≡ map (waiter_in r) (without t ts)
left_by-map r t [] = refl
left_by-map r t (u ∷ us) =
    elim (u.number == t.number) as (λ (b : Bool). cond (not b) (waiter_in r u ∷ left_by t (map (waiter_in r) us)) (left_by t (map (waiter_in r) us)) ≡ map (waiter_in r) (cond (not b) (u ∷ without t us) (without t us)))
    [ true ↦ left_by-map r t us | false ↦ ap (λ (es : List Waiter). waiter_in r u ∷ es) (left_by-map r t us) ]

-- who left is not there
pub gone : (t : Task) (es : List Waiter) → has_waiter t (left_by t es) ≡ false
gone t [] = refl
gone t (e ∷ es) =
    ⊎_elim (λ (f : t.number ≡ e.task.number). rw (eq-eqb e.task.number t.number (sym f)) (gone t es))
    (λ (f : t.number ≡ e.task.number → ⊥). rw (ne_eqb e.task.number t.number (λ g. f (sym g)), ne_eqb t.number e.task.number f) (gone t es)) (cases_eq t.number e.task.number)

pub map-task_of : (r : List ℕ) (ts : List Task) → map task_of (map (waiter_in r) ts) ≡ ts
map-task_of r [] = refl
map-task_of r (t ∷ ts) = ap (λ (us : List Task). t ∷ us) (map-task_of r ts)

has_first : (t : Task) (ts : List Task) → has_task t (t ∷ ts) ≡ true
has_first t ts = ap (λ (b : Bool). b || has_task t ts) (eq-eqb t.number t.number refl)

has_further : (t u : Task) (ts : List Task) → has_task t ts ≡ true → has_task t (u ∷ ts) ≡ true
has_further t u ts e = by (t.number == u.number)
  where
    by : (b : Bool) → (b || has_task t ts) ≡ true
    by true = refl
    by false = e

-- ranks that agree on some tasks
ranks_agree : (r s : List ℕ) (ts : List Task) → ((u : Task) → has_task u ts ≡ true → rank_in s u ≡ rank_in r u) → map (waiter_in s) ts ≡ map (waiter_in r) ts
ranks_agree r s [] h = refl
ranks_agree r s (t ∷ ts) h =
    ap (λ (n : ℕ). record { task = t; rank = n } ∷ map (waiter_in s) ts) (h t (has_first t ts))
    ∙ ap (λ (es : List Waiter). waiter_in r t ∷ es) (ranks_agree r s ts (λ u g. h u (has_further u t ts g)))

spot_agree : (r s : List ℕ) (n : ℕ) (ts : List Task) → ((u : Task) → has_task u ts ≡ true → rank_in s u ≡ rank_in r u) → spot_in (rank_in s) n ts ≡ spot_in (rank_in r) n ts
spot_agree r s n [] h = refl
spot_agree r s n (t ∷ ts) h =
    ap (λ (m : ℕ). cond (nat_lt n m) (Some t) (spot_in (rank_in s) n ts)) (h t (has_first t ts))
    ∙ ap (λ (o : Option Task). cond (nat_lt n (rank_in r t)) (Some t) o) (spot_agree r s n ts (λ u g. h u (has_further u t ts g)))

-- what was found has a greater rank, and is there
pub spot_rank : (f : Task → ℕ) (n : ℕ) (ts : List Task) (b : Task) → spot_in f n ts ≡ Some b → n < f b
spot_rank f n [] b e = cc
spot_rank f n (t ∷ ts) b e =
    ⊎_elim (λ (l : n < f t).
    let same : Some t ≡ Some b = sym (ap (λ (c : Bool). cond c (Some t) (spot_in f n ts)) (lt-ltb n (f t) l)) ∙ e in
    let at : t ≡ b = cc in subst (λ (u : Task). n < f u) at l)
    (λ (l : f t ≤ n). spot_rank f n ts b (sym (ap (λ (c : Bool). cond c (Some t) (spot_in f n ts)) (le-ltb n (f t) l)) ∙ e))
    (cases_lt n (f t))

pub spot_there : (f : Task → ℕ) (n : ℕ) (ts : List Task) (b : Task) → spot_in f n ts ≡ Some b → has_task b ts ≡ true
spot_there f n [] b e = cc
spot_there f n (t ∷ ts) b e =
    ⊎_elim (λ (l : n < f t).
    let same : Some t ≡ Some b = sym (ap (λ (c : Bool). cond c (Some t) (spot_in f n ts)) (lt-ltb n (f t) l)) ∙ e in
    let at : t ≡ b = cc in subst (λ (u : Task). has_task u (t ∷ ts) ≡ true) at (has_first t ts))
    (λ (l : f t ≤ n). has_further b t ts (spot_there f n ts b (sym (ap (λ (c : Bool). cond c (Some t) (spot_in f n ts)) (le-ltb n (f t) l)) ∙ e)))
    (cases_lt n (f t))

-- no rank is above 0 where all are 0
pub spot_flat : (f : Task → ℕ) (ts : List Task) → ((u : Task) → has_task u ts ≡ true → f u ≡ 0) → spot_in f 0 ts ≡ None
spot_flat f [] h = refl
spot_flat f (t ∷ ts) h =
    ap (λ (c : Bool). cond c (Some t) (spot_in f 0 ts)) (le-ltb 0 (f t) (let z = h t (has_first t ts) in omega (arith, z))) ∙ spot_flat f ts (λ u g. h u (has_further u t ts g))

before : (s : List ℕ) (b t : Task) (ts : List Task) → spot_in (rank_in s) (rank_in s t) ts ≡ Some b → map (waiter_in s) (inserted b t ts) ≡ put_ranked (waiter_in s t) (map (waiter_in s) ts)
before s b t [] e = cc
before s b t (u ∷ us) e =
    ⊎_elim (λ (l : rank_in s t < rank_in s u).
    let same : Some u ≡ Some b = sym (ap (λ (c : Bool). cond c (Some u) (spot_in (rank_in s) (rank_in s t) us)) (lt-ltb (rank_in s t) (rank_in s u) l)) ∙ e in
    let at : u ≡ b = cc in
    rw (eq-eqb u.number b.number (ap (λ (v : Task). v.number) at), lt-ltb (rank_in s t) (rank_in s u) l) refl)
    (λ (l : rank_in s u ≤ rank_in s t).
    let on : spot_in (rank_in s) (rank_in s t) us ≡ Some b = sym (ap (λ (c : Bool). cond c (Some u) (spot_in (rank_in s) (rank_in s t) us)) (le-ltb (rank_in s t) (rank_in s u) l)) ∙ e in
    let above = spot_rank (rank_in s) (rank_in s t) us b on in
    let other : u.number ≡ b.number → ⊥ = λ f. let same : rank_in s u ≡ rank_in s b = ap (λ (n : ℕ). slice_index s (n - 1)) f in omega (arith, same, above, l) in
    rw (ne_eqb u.number b.number other, le-ltb (rank_in s t) (rank_in s u) l) (ap (λ (es : List Waiter). waiter_in s u ∷ es) (before s b t us on)))
    (cases_lt (rank_in s t) (rank_in s u))

last : (s : List ℕ) (t : Task) (ts : List Task) → spot_in (rank_in s) (rank_in s t) ts ≡ None → map (waiter_in s) (ts ++ t ∷ []) ≡ put_ranked (waiter_in s t) (map (waiter_in s) ts)
last s t [] e = refl
last s t (u ∷ us) e =
    ⊎_elim (λ (l : rank_in s t < rank_in s u).
    let bad : Some u ≡ None = sym (ap (λ (c : Bool). cond c (Some u) (spot_in (rank_in s) (rank_in s t) us)) (lt-ltb (rank_in s t) (rank_in s u) l)) ∙ e in cc)
    (λ (l : rank_in s u ≤ rank_in s t).
    let on : spot_in (rank_in s) (rank_in s t) us ≡ None = sym (ap (λ (c : Bool). cond c (Some u) (spot_in (rank_in s) (rank_in s t) us)) (le-ltb (rank_in s t) (rank_in s u) l)) ∙ e in
    rw (le-ltb (rank_in s t) (rank_in s u) l) (ap (λ (es : List Waiter). waiter_in s u ∷ es) (last s t us on)))
    (cases_lt (rank_in s t) (rank_in s u))

-- a task gets a rank
module _ (r : List ℕ) (ts : List Task) (t : Task) (n : ℕ) (count : length r ≡ 64) where
  own : rank_in (set r (t.number - 1) n) t ≡ n
  own =
      let high = t.most in
      let low = t.least in
      get_or-set_same r (t.number - 1) n 0 (omega (arith, high, low, count))

  pub other : (u : Task) → (u.number ≡ t.number → ⊥) → rank_in (set r (t.number - 1) n) u ≡ rank_in r u
  other u e =
      let low = t.least in
      let least = u.least in
      get_or-set_other r (t.number - 1) (u.number - 1) n 0 (λ (f : u.number - 1 ≡ t.number - 1). e (omega (arith, f, low, least)))

module _ (r : List ℕ) (ts : List Task) (t : Task) (n : ℕ) (count : length r ≡ 64) (out : has_task t ts ≡ false) where
  agree : (u : Task) → has_task u ts ≡ true → rank_in (set r (t.number - 1) n) u ≡ rank_in r u
  agree u e = other r ts t n count u (λ (f : u.number ≡ t.number). let too : has_task t ts ≡ true = ap (λ (m : ℕ). list_any (λ (v : Task). m == v.number) ts) (sym f) ∙ e in let bad : true ≡ false = sym too ∙ out in cc)

  pub joined_last : spot_in (rank_in r) n ts ≡ None → map (waiter_in (set r (t.number - 1) n)) (ts ++ t ∷ []) ≡ put_ranked (record { task = t; rank = n }) (map (waiter_in r) ts)
  joined_last e =
      let s = set r (t.number - 1) n in
      last s t ts (ap (λ (m : ℕ). spot_in (rank_in s) m ts) (own r ts t n count) ∙ spot_agree r s n ts agree ∙ e)
      ∙ ap (λ (m : ℕ). put_ranked (record { task = t; rank = m }) (map (waiter_in s) ts)) (own r ts t n count)
      ∙ ap (put_ranked (record { task = t; rank = n })) (ranks_agree r s ts agree)

  pub joined_before : (b : Task) → spot_in (rank_in r) n ts ≡ Some b → map (waiter_in (set r (t.number - 1) n)) (inserted b t ts) ≡ put_ranked (record { task = t; rank = n }) (map (waiter_in r) ts)
  joined_before b e =
      let s = set r (t.number - 1) n in
      before s b t ts (ap (λ (m : ℕ). spot_in (rank_in s) m ts) (own r ts t n count) ∙ spot_agree r s n ts agree ∙ e)
      ∙ ap (λ (m : ℕ). put_ranked (record { task = t; rank = m }) (map (waiter_in s) ts)) (own r ts t n count)
      ∙ ap (put_ranked (record { task = t; rank = n })) (ranks_agree r s ts agree)

-- a task joins
pub joined_ranks : (o : Order) (r : List ℕ) (t : Task) (n : ℕ) (ts us : List Task) → AreRanks o r ts → (o ≡ order.First → n ≡ 0) →
    ((u : Task) → has_task u us ≡ (has_task u ts || (u.number == t.number))) → AreRanks o (set r (t.number - 1) n) us
joined_ranks o r t n ts us h none all = record {
  count = length-set r (t.number - 1) n ∙ h.count;
  flat = λ e u g.
      ⊎_elim (λ (f : u.number ≡ t.number). ap (λ (m : ℕ). slice_index (set r (t.number - 1) n) (m - 1)) f ∙ own r ts t n h.count ∙ none e)
      (λ (f : u.number ≡ t.number → ⊥). other r ts t n h.count u f ∙ h.flat e u (sym (at u f) ∙ g))
      (cases_eq u.number t.number);
  free = λ u g.
      ⊎_elim (λ (f : u.number ≡ t.number). let there : has_task u us ≡ true = all u ∙ rw (eq-eqb u.number t.number f) (or_true (has_task u ts)) in let bad : true ≡ false = sym there ∙ g in cc)
      (λ (f : u.number ≡ t.number → ⊥). other r ts t n h.count u f ∙ h.free u (sym (at u f) ∙ g))
      (cases_eq u.number t.number);
}
  where
    or_true : (b : Bool) → (b || true) ≡ true
    or_true true = refl
    or_true false = refl

    or_false : (b : Bool) → (b || false) ≡ b
    or_false true = refl
    or_false false = refl

    at : (u : Task) → (u.number ≡ t.number → ⊥) → has_task u us ≡ has_task u ts
    at u f = all u ∙ rw (ne_eqb u.number t.number f) (or_false (has_task u ts))

-- a task leaves
pub left_ranks : (o : Order) (r : List ℕ) (t : Task) (ts : List Task) → AreRanks o r ts → AreRanks o (set r (t.number - 1) 0) (without t ts)
left_ranks o r t ts h = record {
  count = length-set r (t.number - 1) 0 ∙ h.count;
  flat = λ e u g.
      let kept = and_parts (has_task u ts) (not (u.number == t.number)) (sym (has_task-without u t ts) ∙ g) in
      other r ts t 0 h.count u (λ (f : u.number ≡ t.number). let same = eq-eqb u.number t.number f in let out = kept.1 in cc) ∙ h.flat e u kept.0;
  free = λ u g.
      ⊎_elim (λ (f : u.number ≡ t.number). ap (λ (m : ℕ). slice_index (set r (t.number - 1) 0) (m - 1)) f ∙ own r ts t 0 h.count)
      (λ (f : u.number ≡ t.number → ⊥). other r ts t 0 h.count u f
      ∙ h.free u (sym (and_true (has_task u ts)) ∙ sym (ap (λ (b : Bool). has_task u ts && not b) (ne_eqb u.number t.number f)) ∙ sym (has_task-without u t ts) ∙ g))
      (cases_eq u.number t.number);
}
  where
    and_true : (b : Bool) → (b && true) ≡ b
    and_true true = refl
    and_true false = refl

pub left_waiters : (r : List ℕ) (t : Task) (ts : List Task) → length r ≡ 64 → map (waiter_in (set r (t.number - 1) 0)) (without t ts) ≡ left_by t (map (waiter_in r) ts)
left_waiters r t ts count =
    ranks_agree r (set r (t.number - 1) 0) (without t ts) (λ u g.
    let kept = and_parts (has_task u ts) (not (u.number == t.number)) (sym (has_task-without u t ts) ∙ g) in
    other r ts t 0 count u (λ (f : u.number ≡ t.number). let same = eq-eqb u.number t.number f in let out = kept.1 in cc))
    ∙ sym (left_by-map r t ts)

pub has_task-inserted : (u b t : Task) (ts : List Task) → has_task u (inserted b t ts) ≡ (has_task u ts || (u.number == t.number))
has_task-inserted u b t [] = swap (u.number == t.number) false
  where
    swap : (a b : Bool) → (a || b) ≡ (b || a)
    swap true true = refl
    swap true false = refl
    swap false true = refl
    swap false false = refl
has_task-inserted u b t (x ∷ ts) =
    elim (x.number == b.number) as (λ (c : Bool). has_task u (cond c (t ∷ x ∷ ts) (x ∷ inserted b t ts)) ≡ (has_task u (x ∷ ts) || (u.number == t.number))) [
      | true ↦ swap (u.number == t.number) (has_task u (x ∷ ts))
      | false ↦ ap (λ (c : Bool). (u.number == x.number) || c) (has_task-inserted u b t ts) ∙ assoc (u.number == x.number) (has_task u ts) (u.number == t.number)
    ]
  where
    swap : (a b : Bool) → (a || b) ≡ (b || a)
    swap true true = refl
    swap true false = refl
    swap false true = refl
    swap false false = refl

    assoc : (a b c : Bool) → (a || (b || c)) ≡ ((a || b) || c)
    assoc true b c = refl
    assoc false b c = refl

-- equal waiters have equal ranks
pub ranks_same : (o : Order) (r s : List ℕ) (ts : List Task) → AreRanks o r ts → AreRanks o s ts → map (waiter_in r) ts ≡ map (waiter_in s) ts → r ≡ s
ranks_same o r s ts h i e =
    ext_get_or 0 r s (h.count ∙ sym i.count) (λ k low.
    let at : (task_at k).number ≡ k + 1 = number_at k (omega (arith, low, h.count)) in
    let place : (task_at k).number - 1 ≡ k = omega (arith, at) in
    subst (λ (j : ℕ). slice_index r j ≡ slice_index s j) place (by (task_at k) (has_task (task_at k) ts) refl))
  where
    told : (us : List Task) (u : Task) → map (waiter_in r) us ≡ map (waiter_in s) us → has_task u us ≡ true → rank_in r u ≡ rank_in s u
    told [] u e there = cc
    told (t ∷ us) u e there =
        let first : waiter_in r t ≡ waiter_in s t = cc in
        let rest : map (waiter_in r) us ≡ map (waiter_in s) us = cc in
        ⊎_elim (λ (f : u.number ≡ t.number). subst (λ (m : ℕ). slice_index r (m - 1) ≡ slice_index s (m - 1)) (sym f) (ap (λ (w : Waiter). w.rank) first))
        (λ (f : u.number ≡ t.number → ⊥). told us u rest (sym (ap (λ (b : Bool). b || has_task u us) (ne_eqb u.number t.number f)) ∙ there)) (cases_eq u.number t.number)

    by : (u : Task) (b : Bool) → has_task u ts ≡ b → rank_in r u ≡ rank_in s u
    by u true there = told ts u e there
    by u false out = h.free u out ∙ sym (i.free u out)

-- equal queues have equal tasks, and equal ranks
pub queue_tasks : (o p : Order) (r s : List ℕ) (ts us : List Task) → queue_of o r ts ≡ queue_of p s us → ts ≡ us
queue_tasks o p r s ts us e = sym (map-task_of r ts) ∙ ap (λ (q : Queue). map task_of q.waiters) e ∙ map-task_of s us

pub queue_ranks : (o p : Order) (r s : List ℕ) (ts us : List Task) → AreRanks o r ts → AreRanks p s us → queue_of o r ts ≡ queue_of p s us → r ≡ s
queue_ranks o p r s ts us h i e =
    let there = queue_tasks o p r s ts us e in
    ranks_same o r s ts h
    (subst (λ (a : Order). AreRanks a s ts) (sym (ap (λ (q : Queue). q.order) e)) (subst (λ (vs : List Task). AreRanks p s vs) (sym there) i))
    (ap (λ (q : Queue). q.waiters) e ∙ ap (map (waiter_in s)) (sym there))

pub new_ranks : (o : Order) (ts : List Task) → AreRanks o (replicate 64 0) ts
new_ranks o ts = record { count = length-replicate {A = ℕ} 64 0; flat = λ e t h. zeros 64 (t.number - 1); free = λ t h. zeros 64 (t.number - 1) }

-- the tasks of waiters
pub waits_is : (t : Task) (es : List Waiter) → has_task t (map task_of es) ≡ has_waiter t es
waits_is t [] = refl
waits_is t (e ∷ es) = ap (λ (b : Bool). (t.number == e.task.number) || b) (waits_is t es)

-- of who waits after a task has left: he waited before, and is another
pub waited_before : (t u : Task) (es : List Waiter) → has_waiter t (left_by u es) ≡ true → (not (t.number == u.number) ≡ true) × (has_waiter t es ≡ true)
waited_before t u es h =
    let same = any-filter_same (λ (e : Waiter). t.number == e.task.number) (λ (e : Waiter). not (e.task.number == u.number)) (not (t.number == u.number))
    (λ e f. ap (λ n. not (n == u.number)) (sym (eqb-true t.number e.task.number f))) es in
    and_parts (not (t.number == u.number)) (has_waiter t es) (sym same ∙ h)
