-- How a run ends the program.
use Rattle.std.specs.Prelude.{Bool, true, Result, Ok, Err}
use Rattle.fmp_run_texts.specs.declared.fault.RunFault.{RunFault}
use Rattle.fmp_run_texts.specs.declared.fault.RunFault.TheVariants as run
use Rattle.fmp_run_texts.specs.declared.status.Status.{Status}
use Rattle.fmp_run_texts.specs.declared.status.Status.TheVariants.{Device, Faulty, Usage}
use Rattle.fmp_run_texts.specs.Statuses as faults
use Rattle.fmp_run_explore.specs.declared.fault.ExploreFault.{ExploreFault}
use Rattle.fmp_run_explore.specs.declared.fault.ExploreFault.TheVariants as explore
use Rattle.fmp_run_explore_from.specs.declared.fault.FromFault.{FromFault}
use Rattle.fmp_run_explore_from.specs.declared.fault.FromFault.TheVariants as from
use Rattle.fmp_run_events.specs.declared.lives.LifeFault.{LifeFault}
use Rattle.fmp_run_events.specs.declared.lives.LifeFault.TheVariants as life
use Rattle.fmp_cli_desk.specs.declared.ending.Ending.{Ending}
use Rattle.fmp_cli_desk.specs.declared.ending.Ending.TheVariants as ending
use Rattle.fmp_cli_desk.specs.declared.keeping.Kept.{Kept}

-- the status of a run that ended before its time
abbrev pub status_of : Ending → Status
status_of (ending.Fault fault) = faults.status_of fault
status_of (ending.Faulty fault texts) = faults.status_of fault
status_of (ending.NoConfig cause) = Device
status_of (ending.NoText cause) = Device
status_of ending.OneInput = Usage
status_of ending.Unread = Device
status_of (ending.Question fault place) = Faulty
status_of (ending.NoTrace cause) = Device
status_of ending.LongTrace = Faulty
status_of (ending.Stray line) = Faulty
status_of (ending.Asked fault place config) = Faulty
status_of (ending.Name index) = Usage
status_of (ending.Unnamed index config) = Usage
status_of (ending.Unmade cause path) = Device

-- the status of any run
abbrev pub status_after : Result Status Ending → Status
status_after (Ok status) = status
status_after (Err end) = status_of end

-- that of a run which ends the program so where it goes to its end
abbrev pub status_by : {T : Type 0} → (T → Status) → Result T Ending → Status
status_by status_of_done (Ok done) = status_of_done done
status_by status_of_done (Err end) = status_of end

-- what ends a run with this fault, where nobody reads the output any more or somebody does
abbrev pub of_run : RunFault → Bool → Ending
of_run run.Write true = ending.Unread
of_run fault closed = ending.Fault fault

-- likewise of a search
abbrev pub of_search : ExploreFault → Bool → Ending
of_search (explore.Run fault) closed = of_run fault closed
of_search (explore.Question fault place) closed = ending.Question fault place

-- likewise of a search that begins where a trace ends
abbrev pub of_begun : FromFault → Bool → Ending
of_begun (from.Explore fault) closed = of_search fault closed
of_begun from.Long closed = ending.LongTrace
of_begun (from.Stray line) closed = ending.Stray line

-- likewise of a run that is asked for some things
abbrev pub of_life : LifeFault → Bool → Ending
of_life (life.Run fault) closed = of_run fault closed
of_life (life.Name index) closed = ending.Name index

-- what ends a run of which these texts were read: they are kept where what stands beside a fault is in them
abbrev pub with_texts : Ending → Kept → Ending
with_texts (ending.Fault fault) texts = ending.Faulty fault texts
with_texts (ending.Question fault place) texts = ending.Asked fault place texts.config
with_texts (ending.Name index) texts = ending.Unnamed index texts.config
with_texts other texts = other
