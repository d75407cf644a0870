-- What a run promises that answers events.
use Rattle.std.specs.Prelude.{◌≡◌, ◌++◌, ℕ, true, List, Result, OnOk, IfOk}
use Rattle.fmp_cli.specs.declared.Report.{Report}
use Rattle.fmp_cli.specs.declared.Report.TheVariants.{Line}
use Rattle.fmp_run_devices.specs.Devices.{IsKnown, bytes_of}
use Rattle.fmp_run_devices.specs.Ends.{Ends, SinkEnd, SourceEnd, passing_ends}
use Rattle.fmp_run_devices.specs.Hearing.{Moves, Passes}
use Rattle.fmp_run_texts.specs.declared.fault.RunFault.{RunFault}
use Rattle.fmp_run_texts.specs.declared.status.Status.{Status}
use Rattle.fmp_run_texts.specs.declared.status.Status.TheVariants.{Done}
use Rattle.fmp_run_stream.specs.Runs.{IsAnswered}
use Rattle.fmp_run_stream.specs.Told.{IsTold}
use Rattle.fmp_run_events.specs.Owed.{OwesEvents, WritesEvents}
use Rattle.fmp_run_events.specs.declared.lives.LifeFault.{LifeFault}
use Rattle.fmp_run_events.specs.Lives.{OwesLife, WritesLife}
use Rattle.fmp_cli_runs.specs.Asked.{writing_of}
use Rattle.fmp_cli_runs.specs.Texts.{TextEnd}

-- of events of which calls handed over the beginning, this holds of each text that they may be of
abbrev pub Passing : Ends TextEnd → (Ends SourceEnd → Type 0) → Type 0
Passing events Holds = (p : Passes events.old.given events.new.given events.new.ended)
    → Holds (passing_ends p.all p.rest (λ (end : TextEnd). end.failures) events.old events.new)

-- What `fmpsim calls` promises: it writes what the machine answers to events, each event's part as it comes, and with it the state, or what of it changed, where
-- that is asked for.
pub record Answers (report : Report) (configs : Ends SourceEnd) (events : Ends TextEnd) (trace : Ends SinkEnd) (result : Result Status RunFault) : Type 0 where
  pub status : IfOk result (λ status. status ≡ Done)
  -- It reads the events as they come, and to their end where it goes to its own.
  pub moves : Moves events.old.given events.new.given events.old.left events.new.left
  pub end : OnOk result (events.new.ended ≡ true)
  -- Where lines alone are asked for, what is written is the trace of the answers to the events that were handed over.
  pub lines : report ≡ Line → IsKnown configs.old.left → (text : List ℕ) → events.new.given ≡ events.old.given ++ text → IsKnown trace.old.written
      → OnOk result (IsAnswered (bytes_of configs.old.left) text (bytes_of trace.old.written) (bytes_of trace.new.written))
  -- And this is the trace of records that are told, each by those before it: no machine is in what is said so.
  pub told : report ≡ Line → IsKnown configs.old.left → (text : List ℕ) → events.new.given ≡ events.old.given ++ text → IsKnown trace.old.written
      → OnOk result (IsTold (bytes_of configs.old.left) text (bytes_of trace.old.written) (bytes_of trace.new.written))
  -- What it owes to both texts and to its devices, whatever it writes.
  pub owes : Passing events (λ read. OwesEvents configs read trace result)
  -- What it writes: what is asked for, which is the trace, or with it each state or what of it changed.
  pub writes : Passing events (λ read. WritesEvents (report ≡ Line) (writing_of report) configs read trace result)

-- What `fmpsim calls --of` promises.
pub record Follows (names : List ℕ) (configs : Ends SourceEnd) (events : Ends TextEnd) (trace : Ends SinkEnd) (result : Result (Unit {0}) LifeFault) : Type 0 where
  -- It reads the events as they come, and to their end where it goes to its own.
  pub moves : Moves events.old.given events.new.given events.old.left events.new.left
  pub end : OnOk result (events.new.ended ≡ true)
  -- What it owes to both texts, to the names and to its devices, whatever it writes.
  pub owes : Passing events (λ read. OwesLife names configs read trace result)
  -- What it writes: what is told of the things at boot, and each event that changes it.
  pub writes : Passing events (λ read. WritesLife names configs read trace result)
