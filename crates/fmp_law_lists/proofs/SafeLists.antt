-- A state with lists is safe exactly where the state is for which it stands.
use Rattle.std.proofs.Common.{◌≡◌, sym, ◌∙◌, subst}
use Rattle.fmp_codes.specs.declared.numbers.Proc.{Proc}
use Rattle.fmp_rules.specs.declared.machine.Wait.{Wait}
use Rattle.fmp_rules.specs.declared.machine.Wait.TheVariants as wait
use Rattle.fmp_rules.specs.World.{World}
use Rattle.fmp_rules.specs.Ordering.{Ordering, top, order_in}
use Rattle.fmp_rules.specs.Arrivals.{State, numbered, priority_in, rank_in}
use Rattle.fmp_law_safety.proofs.First.{comes_before_is_strict}
use Rattle.fmp_law_safety.specs.Safe.{MayWait, Safe}
use Rattle.fmp_kernel_order.specs.Queues.{Queues, listed}
use Rattle.fmp_law_lists.specs.Stands.{count_in, with_order, Stands}
use Rattle.fmp_law_lists.specs.Laws.{TellsAlike, ListsAreRight}
use Rattle.fmp_law_lists.proofs.Listings.{listed_once}
use Rattle.fmp_law_lists.proofs.Tops.{same_top, same_ready, same_waiters, same_timed}

module _ {Q R : Type 0} (k : Ordering Q) (l : Ordering R) (w : World Q) (x : R) where
  abbrev v : World R
  v = with_order w x

  may_still : (y : Wait) → MayWait w y → MayWait v y
  may_still wait.Sleep e = e
  may_still wait.Delay e = e
  may_still (wait.Semaphore o) e = e
  may_still (wait.Eventflag f pattern mode) e = e
  may_still (wait.Send d value) e = e
  may_still (wait.Receive d) e = e
  may_still (wait.Pool m) e = e

  -- what is safe in one way to keep order is safe in another that has the same tops
  pub safe_over : ((p : Proc) → top k w p ≡ top l v p) → Safe k w → Safe l v
  safe_over same s = record {
    processors = λ p n. let a = s.processors p n in record { runs = a.runs; dispatched = λ e h. a.dispatched e h ∙ same p; occupied = a.occupied; disabled = a.disabled };
    runs_once = s.runs_once;
    waits = λ t y e. may_still y (s.waits t y e);
    in_range = record {
      tasks = s.in_range.tasks;
      semaphores = s.in_range.semaphores;
      contents = s.in_range.contents;
      one_waiter = s.in_range.one_waiter;
      cyclics = s.in_range.cyclics;
      alarms = s.in_range.alarms;
      locked = s.in_range.locked;
      one_lock = s.in_range.one_lock;
    };
    counts = record { waits = s.counts.waits; cyclics = s.counts.cyclics; alarms = s.counts.alarms };
  }

module _ (k : World Queues) (m : State) (h : Stands k m) where
  tops_at : (p : Proc) → top listed (with_order m k.order) p ≡ top numbered m p
  tops_at = same_top m.tasks (order_in m) (count_in m) m.waits_left k.order m.order h.order

  pub lists_safe : Safe numbered m → Safe listed k
  lists_safe s = subst (Safe listed) (sym h.same) (safe_over numbered listed m k.order (λ p. sym (tops_at p)) s)

  pub numbers_safe : Safe listed k → Safe numbered m
  numbers_safe s = safe_over listed numbered (with_order m k.order) m.order tops_at (subst (Safe listed) h.same s)

  pub tells_alike : TellsAlike k m
  tells_alike = subst (λ (x : World Queues). TellsAlike x m) (sym h.same) (record {
    top = tops_at;
    ready = same_ready m.tasks (order_in m) (count_in m) m.waits_left k.order m.order h.order;
    waiters = same_waiters m.tasks (order_in m) (count_in m) m.waits_left k.order m.order h.order;
    timed = same_timed m.tasks (order_in m) (count_in m) m.waits_left k.order m.order h.order;
  })

  pub lists_are_right : ListsAreRight k
  unfolding listed
  lists_are_right = subst ListsAreRight (sym h.same) (record {
    ready = λ p n t. listed_once (comes_before_is_strict (priority_in m.tasks) m.order.ready) (h.order.ready.lists p n) t;
    waiters = λ x o t. listed_once (comes_before_is_strict (rank_in (order_in m x o) m.tasks) m.order.begun) (h.order.waits.lists x o) t;
    timed = λ t. listed_once (comes_before_is_strict (λ u. 0) m.order.begun) h.order.waits.timed t;
  })
