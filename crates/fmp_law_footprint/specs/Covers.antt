-- What S must have for each event: every cell that the event may change.
use Rattle.std.specs.Prelude.{◌≡◌, ℕ, ◌||◌, true, false, None, is_some, slice_index_or}
use Rattle.fmp_codes.specs.declared.numbers.Proc.{Proc}
use Rattle.fmp_codes.specs.declared.records.Event.{Event}
use Rattle.fmp_codes.specs.declared.records.Event.TheVariants as event
use Rattle.fmp_setup.specs.Setup.{has_time, counts_for}
use Rattle.fmp_rules.specs.World.{World, no_task, processor, handler, runner_of, is_held}
use Rattle.fmp_rules.specs.Ordering.{Ordering}
use Rattle.fmp_rules.specs.Rows.{check}
use Rattle.fmp_rules.specs.Tick.{counted_down, tasks_expired, is_over}
use Rattle.fmp_rules.specs.Step.{row_of}
use Rattle.fmp_law_footprint.specs.Cells.{Cell, LeftOf, ReadyOn, OfProcessor, LatchOf, DueOn, OfCyclic, OfAlarm, on, blank_cyclic, blank_alarm}
use Rattle.fmp_law_footprint.specs.Words.{Each, Wakes}
use Rattle.fmp_law_footprint.specs.CoversCalls.{CoversCall}

module _ (S : Cell → Type 0) where
  -- At the end of an event on p this processor may dispatch, and each processor whose ready tasks S has may be sent a request.
  pub record Settles (p : Proc) : Type 0 where
    pub processor : S (OfProcessor (on p))
    pub latch : S (LatchOf (on p))
    pub latches : (n : ℕ) → S (ReadyOn n) → S (LatchOf n)

module _ {Q : Type 0} (k : Ordering Q) (S : Cell → Type 0) (w : World Q) (p : Proc) where
  -- the ticks left of what a tick of p counts for, the handlers that may become due there, and the waits whose time is over
  pub record CoversTick : Type 0 where
    pub left : (n : ℕ) → counts_for w.timer p (slice_index_or w.tasks n no_task).assigned ≡ true → S (LeftOf n)
    pub cyclics : (n : ℕ) → counts_for w.timer p (slice_index_or w.cyclics n blank_cyclic).assigned ≡ true → S (OfCyclic n)
    pub alarms : (n : ℕ) → counts_for w.timer p (slice_index_or w.alarms n blank_alarm).assigned ≡ true → S (OfAlarm n)
    pub due : S (DueOn (on p))
    pub cyclics_due : (n : ℕ) → is_over (slice_index_or (counted_down w p).cyclics_left n None) ≡ true → S (OfCyclic n)
    pub alarms_due : (n : ℕ) → is_over (slice_index_or (counted_down w p).alarms_left n None) ≡ true → S (OfAlarm n)
    pub released : Each (Wakes S) (tasks_expired (counted_down w p).waits_left (k.timed (counted_down w p).order (counted_down w p).waits_left))

module _ {Q : Type 0} (k : Ordering Q) (S : Cell → Type 0) (w : World Q) where
  -- An event that does nothing needs no cell; a call that is refused, only those by which events end.
  abbrev pub Covers : Event → Type 0
  Covers (event.Call p c) = is_some (runner_of w p) ≡ true → Settles S p × (check w p (row_of k w p c) ≡ None → CoversCall k S w p c)
  Covers (event.Tick p) = has_time w.timer p ≡ true → ((processor w p).locked || is_some (handler w p)) ≡ false → Settles S p × CoversTick k S w p
  Covers (event.Ipi p) = is_held w p ≡ false → Settles S p
