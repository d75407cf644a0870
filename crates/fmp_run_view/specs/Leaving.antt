-- Which values an event may change, by its record.
use Rattle.std.specs.Prelude.{◌≡◌, ℕ, Bool, true, false, ◌||◌, is_some}
use Rattle.fmp_codes.specs.declared.records.Record.{Record}
use Rattle.fmp_law_footprint.specs.Frames.{moves_buffers, moves_due, moves_locks, moves_order, moves_sync, moves_tasks, moves_time, moves_waits}
use Rattle.fmp_run_view.specs.declared.signal.Signal.{Signal}
use Rattle.fmp_run_view.specs.declared.signal.Signal.TheVariants as signals
use Rattle.fmp_run_view.specs.Moments.{Moment}
use Rattle.fmp_run_view.specs.Values.{value_text}

-- some value of a signal may be another after an event of which this is told
abbrev pub may_change : Record → Signal → Bool
may_change r signals.Running = moves_tasks r || is_some r.run_change
may_change r signals.Due = moves_due r
may_change r signals.State = moves_waits r || is_some r.run_change
may_change r signals.Place = moves_order r
may_change r signals.Rest = moves_tasks r
may_change r signals.Semaphore = moves_sync r
may_change r signals.Eventflag = moves_sync r
may_change r signals.DataQueue = moves_buffers r
may_change r signals.Pool = moves_buffers r
may_change r signals.Cyclic = moves_time r
may_change r signals.Alarm = moves_time r
may_change r signals.SpinLock = moves_locks r
may_change r signals.Flags = true

-- the other values are the same at both moments
abbrev pub Leaves : Record → Moment → Moment → Type 0
Leaves r before after = (signal : Signal) → may_change r signal ≡ false → (i : ℕ) → value_text before signal i ≡ value_text after signal i
