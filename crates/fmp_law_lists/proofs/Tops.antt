-- The lists tell what the numbers tell.
use Rattle.std.proofs.Common.{◌≡◌, ℕ, zero, suc, ◌+◌, ◌-◌, ◌*◌, ◌<◌, ◌≤◌, ◌==◌, Bool, true, false, ◌&&◌, ◌||◌, List, [], ◌∷◌, ◌++◌, take, drop, length, map, refl, sym, ap, ◌∙◌, subst, arith, Option, ⊎_elim}
use Rattle.std.specs.Prelude.{nat_le, is_some}
use Rattle.std.proofs.lemmas.Bool.{cases_eq, cases_lt, both_ways, and_parts, eqb-true, eq-eqb, ne_eqb, le-leb, lt-leb, leb-true}
use Rattle.std.proofs.lemmas.List.{get_or_past, get_or-drop, take_more, length-drop, append-nil, append_assoc}
use Rattle.fmp_codes.specs.Numbers.{as_pri, within}
use Rattle.fmp_codes.specs.declared.numbers.Proc.{Proc}
use Rattle.fmp_codes.specs.declared.numbers.Task.{Task}
use Rattle.fmp_codes.specs.declared.numbers.Object.{Object}
use Rattle.fmp_codes.specs.declared.numbers.Pri.{Pri}
use Rattle.fmp_rules.specs.declared.machine.TaskRecord.{TaskRecord}
use Rattle.fmp_rules.specs.declared.machine.QueueKind.{QueueKind}
use Rattle.fmp_setup.specs.declared.setup.Order.{Order}
use Rattle.fmp_rules.specs.World.{no_task, first}
use Rattle.fmp_rules.specs.Ordering.{is_runnable}
use Rattle.fmp_rules.specs.Arrivals.{Arrivals, numbered, comes_before, priority_in, is_ready_on, rank_in, in_order}
use Rattle.fmp_law_safety.proofs.First.{comes_before_is_strict}
use Rattle.fmp_ready.specs.Queues.{list_number, queue_at, first_of}
use Rattle.fmp_waitq.specs.Queue.{task_of}
use Rattle.fmp_kernel_order.specs.Queues.{Queues, queue, listed}
use Rattle.fmp_law_lists.specs.Listing.{IsListOf}
use Rattle.fmp_law_lists.specs.Stands.{record_in, runs_in, waits_for, is_ready_at, is_waiter_of, has_ticks, AreNumbered, ReadyIs, IsOrderOf}
use Rattle.fmp_law_lists.proofs.Listings.{listing_same, listing_append, same_order}
use Rattle.fmp_law_lists.proofs.Numbering.{lower_comes_before, numbers_total, numbered_fewer}
use Rattle.fmp_law_lists.proofs.Waits.{waiter_waits}

-- who is ready or waits is a task that there is

past_blank : (tasks : List TaskRecord) (t : Task) → length tasks < t.number → record_in tasks t ≡ no_task
past_blank tasks t l = get_or_past tasks (t.number - 1) no_task (omega (arith, l))

within_by : (tasks : List TaskRecord) (f : TaskRecord → Bool) → f no_task ≡ false → (t : Task) → f (record_in tasks t) ≡ true → t.number ≤ length tasks
within_by tasks f none t e = ⊎_elim (λ (l : length tasks < t.number). absurd (both_ways _ (ap f (past_blank tasks t l) ∙ none) e)) (λ l. l) (cases_lt (length tasks) t.number)

pub active_within : (tasks : List TaskRecord) (t : Task) → (record_in tasks t).active ≡ true → t.number ≤ length tasks
active_within tasks t e = within_by tasks (λ r. r.active) refl t e

pub runs_within : (tasks : List TaskRecord) (t : Task) → runs_in tasks t ≡ true → t.number ≤ length tasks
runs_within tasks t e = within_by tasks is_runnable refl t e

pub waits_within : (tasks : List TaskRecord) (t : Task) → waits_for tasks t ≡ true → t.number ≤ length tasks
waits_within tasks t e = within_by tasks (λ r. is_some r.wait) refl t e

-- Lists one after another.

abbrev joined : List (List Task) → List Task
joined [] = []
joined (us ∷ qs) = us ++ joined qs

joined_more : (qs : List (List Task)) (us : List Task) → joined (qs ++ us ∷ []) ≡ joined qs ++ us
joined_more [] us = append-nil us
joined_more (vs ∷ qs) us = ap (λ xs. vs ++ xs) (joined_more qs us) ∙ sym (append_assoc vs (joined qs) us)

first_joined : (qs : List (List Task)) → first_of qs ≡ first (joined qs)
first_joined [] = refl
first_joined ([] ∷ qs) = first_joined qs
first_joined ((u ∷ us) ∷ qs) = refl

-- The ready tasks of a processor, of all priorities.
module _ (tasks : List TaskRecord) (ready : List (List Task)) (ns : List ℕ) (next : ℕ) (s : ReadyIs tasks ready ns next) (p : Proc) where
  abbrev before : Task → Task → Bool
  before = comes_before (priority_in tasks) ns

  abbrev up_to : ℕ → Task → Bool
  up_to n t = nat_le (priority_in tasks t) n && is_ready_on tasks p t

  -- the lists of the processor
  abbrev lists_on : List (List Task)
  lists_on = drop (32 * (p.number - 1)) ready

  list_on : (n m : ℕ) → m ≡ n + 1 → n < 32 → joined (take m lists_on) ≡ joined (take n lists_on) ++ queue_at ready (32 * (p.number - 1) + n)
  list_on n m e h =
      let there : n < length lists_on = let l = p.most in let k = length-drop (32 * (p.number - 1)) ready in omega (arith, h, l, k, s.sized) in
      ap (λ i. joined (take i lists_on)) e ∙ ap joined (take_more lists_on n [] there) ∙ joined_more (take n lists_on) (queue_at lists_on n)
      ∙ ap (λ us. joined (take n lists_on) ++ us) (get_or-drop (32 * (p.number - 1)) ready n [])

  joined_is : (n : ℕ) → n ≤ 32 → IsListOf (up_to n) before (joined (take n lists_on))
  joined_is zero h = record { members = λ t. sym (none t); ordered = tt }
    where
      none : (t : Task) → up_to 0 t ≡ false
      none t = ap (λ b. b && is_ready_on tasks p t) (lt-leb (priority_in tasks t) 0 (let l = (record_in tasks t).priority.least in omega (arith, l)))
  joined_is (suc n) h =
      subst (IsListOf (up_to (suc n)) before) (sym (list_on n (suc n) (omega arith) (omega (arith, h))))
      (listing_same (λ t. one_more (priority_in tasks t) (is_ready_on tasks p t))
      (listing_append (up_to n) (is_ready_at tasks p i) before (joined (take n lists_on)) (queue_at ready (32 * (p.number - 1) + n)) lower
      (joined_is n (omega (arith, h))) (subst (λ j. IsListOf (is_ready_at tasks p i) before (queue_at ready j)) index (s.lists p i))))
    where
      i : Pri
      i = as_pri (suc n)

      number : within 32 (suc n) ≡ suc n
      number = omega (arith, h)

      index : list_number p i ≡ 32 * (p.number - 1) + n
      index = omega (arith, number)

      lower : (u v : Task) → up_to n u ≡ true → is_ready_at tasks p i v ≡ true → before u v ≡ true
      lower u v a b =
          let l = leb-true (priority_in tasks u) n (and_parts (nat_le (priority_in tasks u) n) (is_ready_on tasks p u) a).0 in
          let e = eqb-true (priority_in tasks v) (within 32 (suc n)) (and_parts (is_ready_on tasks p v) (priority_in tasks v == within 32 (suc n)) b).1 in
          lower_comes_before (priority_in tasks) ns u v (omega (arith, l, number, e))

      one_more : (a : ℕ) (b : Bool) → ((nat_le a n && b) || (b && a == within 32 (suc n))) ≡ (nat_le a (suc n) && b)
      one_more a false = both_false (nat_le a n) (nat_le a (suc n))
        where
          both_false : (x y : Bool) → ((x && false) || false) ≡ (y && false)
          both_false true true = refl
          both_false true false = refl
          both_false false true = refl
          both_false false false = refl
      one_more a true = ⊎_elim
          (λ (l : a < suc n). rw (le-leb a n (omega (arith, l)), le-leb a (suc n) (omega (arith, l))) refl)
          (λ (l : suc n ≤ a). ⊎_elim
          (λ (e : a ≡ suc n). rw (lt-leb a n (omega (arith, e)), le-leb a (suc n) (omega (arith, e)), eq-eqb a (within 32 (suc n)) (e ∙ sym number)) refl)
          (λ (d : a ≡ suc n → ⊥). rw (lt-leb a n (omega (arith, l)), lt-leb a (suc n) (omega (arith, l, d)), ne_eqb a (within 32 (suc n)) (λ g. d (g ∙ number))) refl)
          (cases_eq a (suc n)))
          (cases_lt a (suc n))

  all_ready : IsListOf (is_ready_on tasks p) before (joined (take 32 lists_on))
  all_ready = listing_same (λ t. ap (λ b. b && is_ready_on tasks p t) (le-leb (priority_in tasks t) 32 (record_in tasks t).priority.most)) (joined_is 32 (omega arith))

-- numbered tasks, listed in the order of their numbers, are the model's list
same_numbered : (q : Task → Bool) (rank : Task → ℕ) (ns : List ℕ) (next : ℕ) (n : ℕ) (us : List Task) →
    AreNumbered q ns next → n ≤ 64 → ((t : Task) → q t ≡ true → t.number ≤ n) →
    IsListOf q (comes_before rank ns) us → us ≡ in_order q (comes_before rank ns) n
same_numbered q rank ns next n us a few within l = same_order q (comes_before rank ns) (comes_before_is_strict rank ns) (numbers_total rank q ns next a) n us few within l

module _ (tasks : List TaskRecord) (orders : QueueKind → Object → Order) (counts : QueueKind → ℕ) (left : List (Option ℕ)) (q : Queues) (n : Arrivals)
    (s : IsOrderOf tasks orders counts left q n) where
  pub same_top : (p : Proc) → listed.top q tasks p ≡ numbered.top n tasks p
  unfolding listed numbered
  same_top p =
      let lists : List (List Task) = take 32 (drop (32 * (p.number - 1)) q.ready) in
      first_joined lists
      ∙ ap first (same_numbered (is_ready_on tasks p) (priority_in tasks) n.ready n.next (length tasks) (joined lists)
      (numbered_fewer runs s.ready.numbered) s.ready.few (λ t e. runs_within tasks t (runs t e)) (all_ready tasks q.ready n.ready n.next s.ready p))
    where
      runs : (t : Task) → is_ready_on tasks p t ≡ true → runs_in tasks t ≡ true
      runs t e = (and_parts (runs_in tasks t) _ e).0

  pub same_ready : (p : Proc) (i : Pri) → listed.ready q tasks p i ≡ numbered.ready n tasks p i
  unfolding listed numbered
  same_ready p i =
      same_numbered (is_ready_at tasks p i) (priority_in tasks) n.ready n.next (length tasks) (queue_at q.ready (list_number p i))
      (numbered_fewer runs s.ready.numbered) s.ready.few (λ t e. runs_within tasks t (runs t e)) (s.ready.lists p i)
    where
      runs : (t : Task) → is_ready_at tasks p i t ≡ true → runs_in tasks t ≡ true
      runs t e = (and_parts (runs_in tasks t) _ (and_parts (is_ready_on tasks p t) _ e).0).0

  pub same_waiters : (x : QueueKind) (i : Object) → listed.waiters q tasks (orders x i) x i ≡ numbered.waiters n tasks (orders x i) x i
  unfolding listed numbered
  same_waiters x i =
      same_numbered (is_waiter_of tasks x i) (rank_in (orders x i) tasks) n.begun n.next (length tasks) (map task_of (queue q.waits x i))
      (numbered_fewer waits s.waits.numbered) s.ready.few (λ t e. waits_within tasks t (waits t e)) (s.waits.lists x i)
    where
      waits : (t : Task) → is_waiter_of tasks x i t ≡ true → waits_for tasks t ≡ true
      waits t e = waiter_waits x i (record_in tasks t).wait e

  pub same_timed : listed.timed q left ≡ numbered.timed n left
  unfolding listed numbered
  same_timed =
      same_numbered (has_ticks left) (λ t. 0) n.begun n.next (length left) q.timed
      (numbered_fewer s.waits.timed_wait s.waits.numbered) (rw s.waits.left_counted s.ready.few)
      (λ t e. rw s.waits.left_counted (waits_within tasks t (s.waits.timed_wait t e))) s.waits.timed
