-- The queues of the objects and the timed waits stay those of the tasks.
use Rattle.std.proofs.Common.{◌≡◌, ℕ, ◌<◌, ◌≤◌, Bool, true, false, List, length, map, refl, sym, ap, ◌∙◌, subst, arith, Option, Some, None, ⊎_elim}
use Rattle.std.specs.Prelude.{is_some}
use Rattle.std.proofs.lemmas.Bool.{cases_Bool, both_ways, false≢true, false_from_ne_true}
use Rattle.std.proofs.lemmas.List.{length-set}
use Rattle.fmp_codes.specs.declared.numbers.Task.{Task}
use Rattle.fmp_codes.specs.declared.numbers.Object.{Object}
use Rattle.fmp_setup.specs.declared.setup.Order.{Order}
use Rattle.fmp_rules.specs.declared.machine.TaskRecord.{TaskRecord}
use Rattle.fmp_rules.specs.declared.machine.Wait.{Wait}
use Rattle.fmp_rules.specs.declared.machine.QueueKind.{QueueKind}
use Rattle.fmp_rules.specs.World.{item, with_item, no_task}
use Rattle.fmp_rules.specs.Ordering.{waits_in}
use Rattle.fmp_rules.specs.Arrivals.{comes_before, rank_in}
use Rattle.fmp_law_safety.proofs.First.{comes_before_is_strict}
use Rattle.fmp_kernel_parts.specs.Tasks.{without}
use Rattle.fmp_waitq.specs.Queue.{Waiter, task_of, rank_of, left_by, joined_by}
use Rattle.fmp_kernel_order.specs.Queues.{WaitQueues, queues, queue, Place, place_of, place_in, changed, timed_by}
use Rattle.fmp_law_lists.specs.Listing.{is_task, all_but, IsListOf}
use Rattle.fmp_law_lists.specs.Stands.{record_in, waits_for, is_waiter_of, has_ticks, AreNumbered, AreRanked, WaitsAre}
use Rattle.fmp_law_lists.proofs.Listings.{at_same, but_other, but_none, listing_agree, listing_same, listing_out, listing_gone, listing_last}
use Rattle.fmp_law_lists.proofs.Numbering.{other_item, own_item, but_agree, before_agree, later_comes_after, numbered_same, numbered_but, numbered_change, numbered_in}
use Rattle.fmp_law_lists.proofs.Places.{in_its_place, in_no_place, in_other_place, HasPlace, queue_after}
use Rattle.fmp_law_lists.proofs.OneQueue.{IsQueueOf, rank_is, queue_same, queue_agree, queue_out, queue_in}

-- the queues and the timed waits without a task, which stands in none
pub record WaitsBut (u : Task) (tasks : List TaskRecord) (orders : QueueKind → Object → Order) (left : List (Option ℕ))
    (waits : WaitQueues) (ticking : List Task) (ns : List ℕ) (next : ℕ) : Type 0 where
  pub lists : (x : QueueKind) (o : Object) → IsListOf (all_but u (is_waiter_of tasks x o)) (comes_before (rank_in (orders x o) tasks) ns) (map task_of (queue waits x o))
  pub ranked : (x : QueueKind) (o : Object) → AreRanked (rank_in (orders x o) tasks) (queue waits x o)
  pub timed : IsListOf (all_but u (has_ticks left)) (comes_before (λ t. 0) ns) ticking
  pub timed_wait : (t : Task) → is_task t u ≡ false → has_ticks left t ≡ true → waits_for tasks t ≡ true
  pub numbered : AreNumbered (all_but u (waits_for tasks)) ns next
  pub counted : length ns ≡ length tasks
  pub left_counted : length left ≡ length tasks

-- who stands in a queue waits
pub waiter_waits : (x : QueueKind) (o : Object) (a : Option Wait) → waits_in x o a ≡ true → is_some a ≡ true
waiter_waits x o None e = absurd (false≢true e)
waiter_waits x o (Some w) e = refl

no_waiter : (x : QueueKind) (o : Object) (a : Option Wait) → a ≡ None → waits_in x o a ≡ false
no_waiter x o a e = ap (waits_in x o) e

-- a task of this record has the rank that it had in the queue where it waits
abbrev pub SameRank : (QueueKind → Object → Order) → TaskRecord → TaskRecord → Type 0
SameRank orders o r = (x : QueueKind) (i : Object) → waits_in x i o.wait ≡ true → rank_of (orders x i) r.priority ≡ rank_of (orders x i) o.priority

module _ (u : Task) (tasks : List TaskRecord) (orders : QueueKind → Object → Order) (left : List (Option ℕ))
    (waits : WaitQueues) (ticking : List Task) (ns : List ℕ) (next : ℕ) where
  abbrev o : TaskRecord
  o = record_in tasks u

  abbrev rank : QueueKind → Object → Task → ℕ
  rank x i = rank_in (orders x i) tasks

  -- a queue without the task, and the whole queue
  abbrev ButQueue : QueueKind → Object → List Waiter → Type 0
  ButQueue x i es = IsQueueOf (all_but u (is_waiter_of tasks x i)) (rank x i) ns es

  abbrev WholeQueue : QueueKind → Object → List Waiter → Type 0
  WholeQueue x i es = IsQueueOf (is_waiter_of tasks x i) (rank x i) ns es

  module _ (s : WaitsAre tasks orders left waits ticking ns next) where
    whole : (x : QueueKind) (i : Object) → WholeQueue x i (queue waits x i)
    whole x i = record { listing = s.lists x i; ranked = s.ranked x i }

    still : (x : QueueKind) (i : Object) → is_waiter_of tasks x i u ≡ false → ButQueue x i (queue waits x i)
    still x i none = queue_same (λ t. sym (but_none u (is_waiter_of tasks x i) none t)) (whole x i)

    left_queue : (a : Option Place) → place_in o.wait ≡ a → (x : QueueKind) (i : Object) → ButQueue x i (queue (changed waits a (left_by u)) x i)
    left_queue None e x i = still x i (in_no_place x i o.wait e)
    left_queue (Some at) e x i =
        queue_after waits at (left_by u) x i ButQueue (λ _. refl)
        (queue_out u (is_waiter_of tasks at.kind at.object) (rank at.kind at.object) ns (queue waits at.kind at.object) (whole at.kind at.object))
        (λ d. still x i (in_other_place x i o.wait at e d))

    -- the wait of the task is over
    pub waits_out : WaitsBut u tasks orders left (changed waits (place_in o.wait) (left_by u)) (without u ticking) ns next
    waits_out = record {
      lists = λ x i. (left_queue (place_in o.wait) refl x i).listing;
      ranked = λ x i. (left_queue (place_in o.wait) refl x i).ranked;
      timed = listing_out u s.timed;
      timed_wait = λ t d e. s.timed_wait t e;
      numbered = numbered_but u (waits_for tasks) s.numbered;
      counted = s.counted;
      left_counted = s.left_counted;
    }

    -- it has none
    pub waits_still : o.wait ≡ None → WaitsBut u tasks orders left waits ticking ns next
    waits_still none = record {
      lists = λ x i. (still x i (no_waiter x i o.wait none)).listing;
      ranked = s.ranked;
      timed = listing_same (λ t. sym (but_none u (has_ticks left) untimed t)) s.timed;
      timed_wait = λ t d e. s.timed_wait t e;
      numbered = numbered_but u (waits_for tasks) s.numbered;
      counted = s.counted;
      left_counted = s.left_counted;
    }
      where
        untimed : has_ticks left u ≡ false
        untimed = false_from_ne_true _ (λ e. false≢true (sym (ap is_some none) ∙ s.timed_wait u e))

  but : WaitsBut u tasks orders left waits ticking ns next → (x : QueueKind) (i : Object) → ButQueue x i (queue waits x i)
  but s x i = record { listing = s.lists x i; ranked = s.ranked x i }

  -- Its record, its number and its ticks change.
  module _ (r : TaskRecord) (l : List (Option ℕ)) (ms : List ℕ) (more : ℕ)
      (same : (t : Task) → is_task t u ≡ false → item 0 ns t.number ≡ item 0 ms t.number)
      (ticks : (t : Task) → is_task t u ≡ false → item None left t.number ≡ item None l t.number)
      (up : next ≤ more) (count : length ms ≡ length ns) (left_count : length l ≡ length left) where
    abbrev new : List TaskRecord
    new = with_item tasks u.number r

    other : (t : Task) → is_task t u ≡ false → record_in tasks t ≡ record_in new t
    other t d = sym (other_item no_task tasks r u t d)

    rank_other : (i : Order) (t : Task) → is_task t u ≡ false → rank_in i tasks t ≡ rank_in i new t
    rank_other i t d = rank_is i tasks t ∙ ap (λ (x : TaskRecord). rank_of i x.priority) (other t d) ∙ sym (rank_is i new t)

    same_but : (q : Task → Bool) (t : Task) → all_but u q t ≡ true → item 0 ns t.number ≡ item 0 ms t.number
    same_but q t e = same t (but_other u q t e).0

    changed_queue : WaitsBut u tasks orders left waits ticking ns next → (x : QueueKind) (i : Object) →
        IsQueueOf (all_but u (is_waiter_of new x i)) (rank_in (orders x i) new) ms (queue waits x i)
    changed_queue s x i =
        queue_agree (all_but u (is_waiter_of tasks x i)) (all_but u (is_waiter_of new x i)) (rank x i) (rank_in (orders x i) new) ns ms (queue waits x i)
        (but_agree u (is_waiter_of tasks x i) (is_waiter_of new x i) (λ t d. ap (λ a. waits_in x i a.wait) (other t d)))
        (λ t e. rank_other (orders x i) t (but_other u (is_waiter_of new x i) t e).0) (same_but (is_waiter_of new x i)) (but s x i)

    pub waits_changed : WaitsBut u tasks orders left waits ticking ns next → WaitsBut u new orders l waits ticking ms more
    waits_changed s = record {
      lists = λ x i. (changed_queue s x i).listing;
      ranked = λ x i. (changed_queue s x i).ranked;
      timed = listing_agree (but_agree u (has_ticks left) (has_ticks l) (λ t d. ap is_some (ticks t d)))
          (λ t v e f. before_agree (λ _. 0) (λ _. 0) ns ms t v refl refl (same_but (has_ticks l) t e) (same_but (has_ticks l) v f)) s.timed;
      timed_wait = λ t d e. sym (ap (λ a. is_some a.wait) (other t d)) ∙ s.timed_wait t d (ap is_some (ticks t d) ∙ e);
      numbered = numbered_change (same_but (waits_for new)) up
          (numbered_same (but_agree u (waits_for tasks) (waits_for new) (λ t d. ap (λ a. is_some a.wait) (other t d))) s.numbered);
      counted = count ∙ s.counted ∙ sym (length-set tasks _ r);
      left_counted = left_count ∙ s.left_counted ∙ sym (length-set tasks _ r);
    }

  -- It has no wait.
  pub waits_rest : o.wait ≡ None → has_ticks left u ≡ false → WaitsBut u tasks orders left waits ticking ns next → WaitsAre tasks orders left waits ticking ns next
  waits_rest none untimed s = record {
    lists = λ x i. listing_same (but_none u (is_waiter_of tasks x i) (no_waiter x i o.wait none)) (s.lists x i);
    ranked = s.ranked;
    timed = listing_same (but_none u (has_ticks left) untimed) s.timed;
    timed_wait = λ t e. ⊎_elim
        (λ (a : is_task t u ≡ true). absurd (both_ways _ (at_same (λ x. has_ticks left x ≡ false) t u a untimed) e))
        (λ (a : is_task t u ≡ false). s.timed_wait t a e) (cases_Bool (is_task t u));
    numbered = numbered_same (but_none u (waits_for tasks) (ap is_some none)) s.numbered;
    counted = s.counted;
    left_counted = s.left_counted;
  }

  -- It waits, after all others.
  module _ (last : (t : Task) → is_task t u ≡ false → waits_for tasks t ≡ true → item 0 ns t.number < item 0 ns u.number) (low : item 0 ns u.number < next)
      (w : Wait) (waiting : o.wait ≡ Some w) (s : WaitsBut u tasks orders left waits ticking ns next) where
    timed_last : (a : Option ℕ) → item None left u.number ≡ a → IsListOf (has_ticks left) (comes_before (λ t. 0) ns) (timed_by a u ticking)
    timed_last None e = listing_same (but_none u (has_ticks left) (ap is_some e)) (listing_gone u (has_ticks left) s.timed)
    timed_last (Some n) e =
        listing_last u (has_ticks left) (comes_before (λ t. 0) ns) (comes_before_is_strict (λ t. 0) ns) (without u ticking) (ap is_some e)
        (λ t d h. later_comes_after (λ _. 0) ns t u refl (last t d (s.timed_wait t d h))) (listing_gone u (has_ticks left) s.timed)

    module _ (n : ℕ) (ranks : (at : Place) → place_of w ≡ Some at → n ≡ rank at.kind at.object u) (known : HasPlace (λ k. length (queues waits k)) w) where
      abbrev joins : List Waiter → List Waiter
      joins = joined_by (record { task = u; rank = n })

      elsewhere : (x : QueueKind) (i : Object) → is_waiter_of tasks x i u ≡ false → WholeQueue x i (queue waits x i)
      elsewhere x i none = queue_same (but_none u (is_waiter_of tasks x i) none) (but s x i)

      joined_queue : (a : Option Place) → place_of w ≡ a → (x : QueueKind) (i : Object) → WholeQueue x i (queue (changed waits a joins) x i)
      joined_queue None e x i = elsewhere x i (in_no_place x i o.wait (ap place_in waiting ∙ e))
      joined_queue (Some at) e x i =
          queue_after waits at joins x i WholeQueue (λ past. let l = known at e in absurd (omega (arith, past, l)))
          (queue_in u (is_waiter_of tasks at.kind at.object) (rank at.kind at.object) ns (queue waits at.kind at.object) n (ranks at e)
          (in_its_place o.wait at (ap place_in waiting ∙ e))
          (λ t d h. last t d (waiter_waits at.kind at.object (record_in tasks t).wait h)) (but s at.kind at.object))
          (λ d. elsewhere x i (in_other_place x i o.wait at (ap place_in waiting ∙ e) d))

      pub waits_in_place : WaitsAre tasks orders left (changed waits (place_of w) joins) (timed_by (item None left u.number) u ticking) ns next
      waits_in_place = record {
        lists = λ x i. (joined_queue (place_of w) refl x i).listing;
        ranked = λ x i. (joined_queue (place_of w) refl x i).ranked;
        timed = timed_last (item None left u.number) refl;
        timed_wait = λ t e. ⊎_elim
            (λ (a : is_task t u ≡ true). at_same (λ x. waits_for tasks x ≡ true) t u a (ap is_some waiting))
            (λ (a : is_task t u ≡ false). s.timed_wait t a e) (cases_Bool (is_task t u));
        numbered = numbered_in u (waits_for tasks) ns next last low s.numbered;
        counted = s.counted;
        left_counted = s.left_counted;
      }

  -- Its record changes, but neither its wait nor its rank.
  pub waits_kept : (r : TaskRecord) → r.wait ≡ o.wait → SameRank orders o r → (more : ℕ) → next ≤ more → u.number ≤ length tasks →
      WaitsAre tasks orders left waits ticking ns next → WaitsAre (with_item tasks u.number r) orders left waits ticking ns more
  waits_kept r wait ranks more up within s = record {
    lists = λ x i. (kept_queue x i).listing;
    ranked = λ x i. (kept_queue x i).ranked;
    timed = s.timed;
    timed_wait = λ t e. sym (ap is_some (same_wait t)) ∙ s.timed_wait t e;
    numbered = numbered_change (λ _ _. refl) up (numbered_same (λ t. ap is_some (same_wait t)) s.numbered);
    counted = s.counted ∙ sym (length-set tasks _ r);
    left_counted = s.left_counted ∙ sym (length-set tasks _ r);
  }
    where
      new : List TaskRecord
      new = with_item tasks u.number r

      mine : record_in new u ≡ r
      mine = own_item no_task tasks r u within

      by_task : (P : TaskRecord → TaskRecord → Type 0) (t : Task) → P o r → ((x : TaskRecord) → P x x) → P (record_in tasks t) (record_in new t)
      by_task P t here others = ⊎_elim
          (λ (a : is_task t u ≡ true). at_same (λ x. P (record_in tasks x) (record_in new x)) t u a (subst (P o) (sym mine) here))
          (λ (a : is_task t u ≡ false). subst (P (record_in tasks t)) (sym (other_item no_task tasks r u t a)) (others (record_in tasks t))) (cases_Bool (is_task t u))

      same_wait : (t : Task) → (record_in tasks t).wait ≡ (record_in new t).wait
      same_wait t = by_task (λ a b. a.wait ≡ b.wait) t (sym wait) (λ _. refl)

      same_rank : (x : QueueKind) (i : Object) (t : Task) → is_waiter_of tasks x i t ≡ true → rank x i t ≡ rank_in (orders x i) new t
      same_rank x i t e =
          rank_is (orders x i) tasks t
          ∙ by_task (λ a b. waits_in x i a.wait ≡ true → rank_of (orders x i) a.priority ≡ rank_of (orders x i) b.priority) t (λ h. sym (ranks x i h)) (λ _ _. refl) e
          ∙ sym (rank_is (orders x i) new t)

      kept_queue : (x : QueueKind) (i : Object) → IsQueueOf (is_waiter_of new x i) (rank_in (orders x i) new) ns (queue waits x i)
      kept_queue x i =
          queue_agree (is_waiter_of tasks x i) (is_waiter_of new x i) (rank x i) (rank_in (orders x i) new) ns ns (queue waits x i)
          (λ t. ap (waits_in x i) (same_wait t)) (λ t e. same_rank x i t (ap (waits_in x i) (same_wait t) ∙ e)) (λ _ _. refl) (whole s x i)

-- the counts of ticks change, but not which tasks have some
pub waits_ticked : (tasks : List TaskRecord) (orders : QueueKind → Object → Order) (left more : List (Option ℕ))
    (waits : WaitQueues) (ticking : List Task) (ns : List ℕ) (next : ℕ) → ((t : Task) → has_ticks left t ≡ has_ticks more t) → length more ≡ length left →
    WaitsAre tasks orders left waits ticking ns next → WaitsAre tasks orders more waits ticking ns next
waits_ticked tasks orders left more waits ticking ns next same count s = record {
  lists = s.lists;
  ranked = s.ranked;
  timed = listing_same same s.timed;
  timed_wait = λ t e. s.timed_wait t (same t ∙ e);
  numbered = s.numbered;
  counted = s.counted;
  left_counted = count ∙ s.left_counted;
}
