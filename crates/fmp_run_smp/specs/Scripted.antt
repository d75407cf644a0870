-- What a run of processors that follow scripts does.
use Rattle.std.specs.Prelude.{◌≡◌, ℕ, Bool, false, not, ◌&&◌, ◌==◌, Option, None, Some, List, ◌++◌, length, if◌then◌else◌}
use Rattle.fmp_codes.specs.declared.records.Record.{Record}
use Rattle.fmp_setup.specs.Setup.{Setup}
use Rattle.fmp_text_scripts.specs.ScriptGrammar.{SpellsScripts}
use Rattle.fmp_text_scripts.specs.Scripts.{Steps}
use Rattle.fmp_smp.specs.declared.fault.SmpFault.{SmpFault}
use Rattle.fmp_smp.specs.declared.fault.SmpFault.TheVariants as smp
use Rattle.fmp_smp.specs.Rounds.{TicksInTurn}
use Rattle.fmp_smp.specs.Seeds.{IsInOrderOf}
use Rattle.fmp_trace_check.specs.Checking.{PrintsAnswers}
use Rattle.fmp_trace.specs.Lines.{lines_from}
use Rattle.fmp_world.specs.declared.finishing.Ended.{Ended}
use Rattle.fmp_world.specs.declared.finishing.Ended.TheVariants as ended
use Rattle.fmp_world.specs.declared.seats.Receipt.{Receipt}
use Rattle.fmp_world.specs.Ends.{IsSmpRun}
use Rattle.fmp_smp_histories.specs.Histories.{events_of, state_after}
use Rattle.fmp_show_state.specs.Waits.{waiting_lines}
use Rattle.fmp_run_texts.specs.declared.fault.RunFault.{RunFault}
use Rattle.fmp_run_texts.specs.declared.fault.RunFault.TheVariants as run
use Rattle.fmp_run_devices.specs.Devices.{BeginsWith}
use Rattle.fmp_run_texts.specs.declared.status.Status.{Status}
use Rattle.fmp_run_texts.specs.declared.status.Status.TheVariants.{Done, Limit, Waiting}
use Rattle.fmp_run_texts.specs.Texts.{SaysConfig}

-- the output is the trace of a run of the one text's machine by the other's scripts, which ended so
pub record Played (config_text script_text : List ℕ) (ticks turns : ℕ) (output : List ℕ) (ended : Ended) : Type 0 where
  pub config : Setup
  pub scripts : List Steps
  pub records : List Record
  pub receipts : List (List Receipt)
  pub says : SaysConfig config_text config
  pub spells : SpellsScripts config.names script_text scripts
  pub run : IsSmpRun config scripts ticks turns records receipts ended
  -- each tick is the one that was due
  pub ticked : TicksInTurn config ticks records
  pub prints : output ≡ lines_from config.names 1 records
  -- it is a trace of this machine's answers, and within the limits of texts
  pub answers : PrintsAnswers config output (events_of records)

-- the output was written after old, all of it
abbrev pub IsPlayed : List ℕ → List ℕ → ℕ → ℕ → List ℕ → List ℕ → Ended → Type 0
IsPlayed config_text script_text ticks turns old new ended =
    (output : List ℕ) × Played config_text script_text ticks turns output ended × (new ≡ old ++ output)

-- each record is of the event that the seed's next number draws, where a seed is given; threads may make any order
abbrev pub InOrder : Option ℕ → Setup → List Steps → ℕ → List Record → Type 0
InOrder None c scripts ticks h = Unit {0}
InOrder (Some seed) c scripts ticks h = IsInOrderOf seed c scripts ticks h

-- the lines of the tasks that wait after these records
abbrev pub waiting_after : Setup → List Record → List ℕ
waiting_after c h = waiting_lines c.names (state_after c h)

-- the output was written after old, in the order of the seed where one is given, and these lines tell who waits at the end of its run
abbrev pub IsPlayedToEnd : Option ℕ → List ℕ → List ℕ → ℕ → ℕ → List ℕ → List ℕ → Ended → List ℕ → Type 0
IsPlayedToEnd seed config_text script_text ticks turns old new ended waiting =
    (output : List ℕ) × (run : Played config_text script_text ticks turns output ended) × (new ≡ old ++ output)
    × InOrder seed run.config run.scripts ticks run.records × (waiting ≡ waiting_after run.config run.records)

-- a beginning of such an output was written after old
abbrev pub IsPlayBegun : List ℕ → List ℕ → ℕ → ℕ → List ℕ → List ℕ → Type 0
IsPlayBegun config_text script_text ticks turns old new =
    (output : List ℕ) × (ended : Ended) × Played config_text script_text ticks turns output ended × BeginsWith old output new

-- the run's fault where the processors made no run
abbrev pub smp_fault_of : SmpFault → RunFault
smp_fault_of smp.Memory = run.Memory
smp_fault_of smp.Start = run.Start
smp_fault_of smp.Disagree = run.Disagree

-- how the program ends after a run of processors
abbrev pub status_of_end : Ended → Status
status_of_end ended.Quiet = Done
status_of_end ended.Limit = Limit

-- a run ended quiet while a task waits, of which these lines tell
abbrev pub is_stuck : Ended → List ℕ → Bool
is_stuck ended.Quiet waiting = not (length waiting == 0)
is_stuck ended.Limit waiting = false

-- how the program ends after it, where that is a status of its own, or is not
abbrev pub status_by : Bool → Ended → List ℕ → Status
status_by strict ended waiting = if strict && is_stuck ended waiting then Waiting else status_of_end ended
