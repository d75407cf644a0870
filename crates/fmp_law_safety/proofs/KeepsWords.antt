-- The words by which calls change tasks.
use Rattle.std.proofs.Common.{◌≡◌, ◌≤◌, ℤ, pos, negsuc, ℕ, Bool, true, false, Option, None, Some, refl, subst, arith}
use Rattle.std.specs.Prelude.{slice_index_or}
use Rattle.std.proofs.lemmas.Bool.{cond_both, leb-true}
use Rattle.fmp_codes.specs.declared.numbers.Proc.{Proc}
use Rattle.fmp_codes.specs.declared.numbers.Task.{Task}
use Rattle.fmp_rules.specs.declared.machine.TaskRecord.{TaskRecord}
use Rattle.fmp_rules.specs.declared.machine.Wait.{Wait}
use Rattle.fmp_rules.specs.declared.machine.Context.TheVariants as context
use Rattle.fmp_rules.specs.Effects.{Effect}
use Rattle.fmp_rules.specs.World.{World, no_task, item, with_item, task, is_held}
use Rattle.fmp_rules.specs.Ordering.{Ordering, with_task, place, begin_wait, end_wait, requeue}
use Rattle.fmp_rules.specs.Tasks.{make_ready, rotate}
use Rattle.fmp_rules.specs.Arguments.{caller, is_zero, is_time, is_timeout, ticks_of, most_time}
use Rattle.fmp_rules.specs.Rows.{is_refused_context, wait_for, done_or_wait}
use Rattle.fmp_law_safety.specs.Safe.{may_run_on, TicksInRange, IsNumberOf, Safe}
use Rattle.fmp_law_safety.proofs.Items.{item_after, item_put, item_other}
use Rattle.fmp_law_safety.proofs.Rests.{MayBegin}
use Rattle.fmp_law_safety.proofs.Keeps.{Occupied, KeepsOthers, Becomes, keeps_all, keeps_task, keeps_through}
use Rattle.fmp_law_safety.proofs.KeepsTasks.{runs_without_wait, becomes_noted, becomes_released, becomes_waiting}
use Rattle.fmp_law_safety.proofs.Calls.{from_task, free_where_unheld, occupied_at}

-- a wait begins with a count of ticks in range
pub ticks_in_range : (timeout : ℤ) → is_timeout timeout ≡ true → TicksInRange (ticks_of timeout)
ticks_in_range (pos n) e = let most : n ≤ most_time = leb-true n most_time e in (omega arith, omega (arith, most))
ticks_in_range (negsuc n) e = tt

pub time_in_range : (time : ℤ) → is_time time ≡ true → TicksInRange (ticks_of time)
time_in_range (pos n) e = ticks_in_range (pos n) e
time_in_range (negsuc n) e = tt

module _ {Q : Type 0} (k : Ordering Q) (w : World Q) (p : Proc) (o : Occupied w p) where
  -- the ticks left after those of one task were set
  left_after : (t : Task) (left : Option ℕ) → TicksInRange left → (u : Task) → TicksInRange (item None w.waits_left u.number) →
      TicksInRange (item None (with_item w.waits_left t.number left) u.number)
  left_after t left ticks u h = item_after None w.waits_left t.number left TicksInRange u.number (λ _. ticks) h

  pub keeps_with_task : (t : Task) (r : TaskRecord) → Becomes w p t r → KeepsOthers w (with_task w t r) p
  keeps_with_task t r b = keeps_task w p t r w.waits_left w.order b o (λ u h. h)

  pub keeps_place : (t : Task) (r : TaskRecord) → Becomes w p t r → KeepsOthers w (place k w t r) p
  keeps_place t r b = keeps_task w p t r w.waits_left _ b o (λ u h. h)

  pub keeps_requeue : (t : Task) (r : TaskRecord) → Becomes w p t r → KeepsOthers w (requeue k w t r) p
  keeps_requeue t r b = keeps_task w p t r w.waits_left _ b o (λ u h. h)

  pub keeps_end_wait : (t : Task) (r : TaskRecord) → Becomes w p t r → KeepsOthers w (end_wait k w t r) p
  keeps_end_wait t r b = keeps_task w p t r _ _ b o (λ u. left_after t None tt u)

  -- the wait of any task is over
  pub keeps_make_ready : (t : Task) → KeepsOthers w (make_ready k w t) p
  keeps_make_ready t = keeps_end_wait t _ (becomes_released w p t)

  -- and then something else
  pub keeps_after_release : (t : Task) (v : World Q) → KeepsOthers (make_ready k w t) v p → KeepsOthers w v p
  keeps_after_release t v b =
      keeps_through w p (make_ready k w t) v
      (λ u h r m.
      item_after no_task w.tasks t.number (record (task w t) { wait = None }) (λ (o : TaskRecord). may_run_on p o ≡ true) u.number
      (λ i. runs_without_wait p (task w t) (subst (λ i. may_run_on p (slice_index_or w.tasks i no_task) ≡ true) i m)) m)
      (keeps_make_ready t) b

  -- who was released waits no longer, and the others as they did
  pub wait_gone : (t : Task) → (task (make_ready k w t) t).wait ≡ None
  wait_gone t = item_put no_task w.tasks t.number (record (task w t) { wait = None }) (λ (r : TaskRecord). r.wait ≡ None) refl refl

  pub others_as_before : (t u : Task) → (u.number ≡ t.number → ⊥) → task (make_ready k w t) u ≡ task w u
  others_as_before t u d = item_other no_task w.tasks t.number _ u.number u.least t.least d

  -- what p may run waits, where p is not held
  pub keeps_begin_wait : (t : Task) (x : Wait) (left : Option ℕ) → may_run_on p (task w t) ≡ true → is_held w p ≡ false → MayBegin w x → TicksInRange left →
      KeepsOthers w (begin_wait k w t x left) p
  keeps_begin_wait t x left mine free may ticks =
      keeps_task w p t _ _ _ (becomes_waiting w p t x mine free may) o (λ u. left_after t left ticks u)

  -- the same, unless the timeout is 0
  pub keeps_wait_for : (t : Task) (x : Wait) (timeout : ℤ) → may_run_on p (task w t) ≡ true → is_held w p ≡ false → MayBegin w x → is_timeout timeout ≡ true →
      KeepsOthers w (wait_for k w t x timeout).0 p
  keeps_wait_for t x timeout mine free may time =
      cond_both (is_zero timeout) _ _ (λ (did : World Q × _). KeepsOthers w did.0 p) (λ _. keeps_all w p o)
      (λ _. keeps_begin_wait t x (ticks_of timeout) mine free may (ticks_in_range timeout time))

  -- a task comes last of its priority
  pub keeps_rotate : (t : Option Task) → KeepsOthers w (rotate k w t) p
  keeps_rotate None = keeps_all w p o
  keeps_rotate (Some t) = keeps_place t (task w t) (becomes_noted w p t (task w t) refl refl refl (λ r. r))

module _ {Q : Type 0} (k : Ordering Q) (w : World Q) (p : Proc) (s : Safe k w) (within : IsNumberOf w.processors p.number) where
  -- a call from a task that waits where it cannot be done at once, and may be made only while p is not held
  pub keeps_done_or_wait : (can : Bool) (effect : World Q × Effect) (x : Wait) (timeout : ℤ) →
      is_refused_context w p (record { context = context.Task; when_locked = false; unheld = true }) ≡ false → is_timeout timeout ≡ true →
      (can ≡ true → KeepsOthers w effect.0 p) → (can ≡ false → MayBegin w x) → KeepsOthers w (done_or_wait k w p can effect x timeout).0 p
  keeps_done_or_wait can effect x timeout rule time at_once may =
      cond_both can _ _ (λ (did : World Q × Effect). KeepsOthers w did.0 p) at_once
      (λ e. keeps_wait_for k w p (occupied_at w p (s.processors p within)) (caller w p) x timeout
      ((s.processors p within).runs (caller w p) (from_task w p false true rule).running) (free_where_unheld w p context.Task false rule) (may e) time)
