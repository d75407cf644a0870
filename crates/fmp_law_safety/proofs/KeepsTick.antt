-- A tick.
use Rattle.std.proofs.Common.{◌-◌, ◌<◌, ◌⊎◌, List, length, Some, None, ⊎_elim}
use Rattle.fmp_codes.specs.declared.numbers.Proc.{Proc}
use Rattle.fmp_codes.specs.declared.numbers.Task.{Task}
use Rattle.fmp_codes.specs.declared.numbers.Object.{Object}
use Rattle.fmp_setup.specs.Setup.{counts_for}
use Rattle.fmp_rules.specs.World.{World, item}
use Rattle.fmp_rules.specs.Objects.{cyclic}
use Rattle.fmp_rules.specs.Ordering.{Ordering}
use Rattle.fmp_rules.specs.Tick.{counted_down, released, tasks_expired, ticked, tick}
use Rattle.fmp_law_safety.specs.Safe.{IsNumberOf, TicksInRange, CountsInRange, Safe}
use Rattle.fmp_law_safety.proofs.Rests.{Rests, rests_beside}
use Rattle.fmp_law_safety.proofs.Keeps.{KeepsOthers}
use Rattle.fmp_law_safety.proofs.TimeCalls.{period_in_range}
use Rattle.fmp_law_safety.proofs.Queues.{Lists}
use Rattle.fmp_law_safety.proofs.Calls.{occupied_at}
use Rattle.fmp_law_safety.proofs.KeepsDue.{released_keep, keeps_released}
use Rattle.fmp_law_safety.proofs.TickCounts.{Fallen, in_range_fallen, lowered_item, served_task, waits_served, Counting, counts_handlers_due}

module _ {Q : Type 0} (k : Ordering Q) (lists : (v : World Q) → Lists k v) (w : World Q) (s : Safe k w) (p : Proc) (within : IsNumberOf w.processors p.number) where
  abbrev expired_waits : World Q → List Task
  expired_waits v = tasks_expired v.waits_left (k.timed v.order v.waits_left)

  counting : Rests w → CountsInRange w → Counting (released k (counted_down w p) (expired_waits (counted_down w p))).0
  unfolding counted_down
  counting r h =
      let v : World Q = counted_down w p in
      let ts : List Task = expired_waits v in
      record {
        waits = λ t.
            waits_served p k v ts t
            (served_task v.waits_left (k.timed v.order v.waits_left) t
            (⊎_elim (in_range_fallen (item None v.waits_left t.number)) (λ f. f.1) (lowered_item (λ x. counts_for w.timer p x.assigned) w.tasks w.waits_left (t.number - 1) (h.waits t)))
            ((lists v).timed t));
        cyclics = λ c.
            released_keep p (λ (u : World Q). TicksInRange (item None u.cyclics_left c.number) ⊎ ((c.number - 1 < length u.cyclics) × Fallen (item None u.cyclics_left c.number))) k (λ u t e. e) v ts
            (lowered_item (λ x. counts_for w.timer p x.assigned) w.cyclics w.cyclics_left (c.number - 1) (h.cyclics c));
        alarms = λ a.
            released_keep p (λ (u : World Q). TicksInRange (item None u.alarms_left a.number) ⊎ ((a.number - 1 < length u.alarms) × Fallen (item None u.alarms_left a.number))) k (λ u t e. e) v ts
            (lowered_item (λ x. counts_for w.timer p x.assigned) w.alarms w.alarms_left (a.number - 1) (h.alarms a));
        periods = released_keep p (λ (u : World Q). (c : Object) → TicksInRange (Some (cyclic u c).setup.period)) k (λ u t e. e) v ts (period_in_range w r);
      }

  pub keeps_tick : KeepsOthers w (tick k w p).0 p
  unfolding counted_down ticked
  keeps_tick =
      let v : World Q = counted_down w p in
      let o = occupied_at w p (s.processors p within) in
      let a = keeps_released p k v (expired_waits v) (record { held = o.held; disabled = o.disabled }) in
      record {
        processors = a.processors;
        handlers = a.handlers;
        count = a.count;
        running = a.running;
        others = a.others;
        own = a.own;
        occupied = a.occupied;
        rests = λ r.
            a.rests
            (rests_beside w v.waits_left w.processors w.due w.cyclics v.cyclics_left w.alarms v.alarms_left w.holders r.in_range.cyclics r.in_range.alarms r.in_range.locked r.in_range.one_lock r);
        counts = λ r h. counts_handlers_due (released k v (expired_waits v)).0 p (counting r h);
      }
