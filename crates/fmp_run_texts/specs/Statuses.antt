-- What the program ends with.
use Rattle.std.specs.Prelude.{ℕ}
use Rattle.fmp_config_statements.specs.declared.fault.ConfigKind.{ConfigKind}
use Rattle.fmp_config_statements.specs.declared.fault.ConfigKind.TheVariants as config_kind
use Rattle.fmp_text.specs.declared.fault.TextKind.{TextKind}
use Rattle.fmp_text.specs.declared.fault.TextKind.TheVariants as text_kind
use Rattle.fmp_trace_check.specs.declared.checking.Verdict.{Verdict}
use Rattle.fmp_trace_check.specs.declared.checking.Verdict.TheVariants.{Yes, No}
use Rattle.fmp_run_texts.specs.declared.fault.RunFault.{RunFault}
use Rattle.fmp_run_texts.specs.declared.fault.RunFault.TheVariants as run
use Rattle.fmp_run_texts.specs.declared.status.Status.{Status}
use Rattle.fmp_run_texts.specs.declared.status.Status.TheVariants.{Done, Faulty, Usage, Device, Memory, Different, Limit, Waiting}

-- the exit status
abbrev pub code_of : Status → ℕ
code_of Done = 0
code_of Faulty = 1
code_of Usage = 2
code_of Device = 3
code_of Memory = 4
code_of Different = 5
code_of Limit = 6
code_of Waiting = 7

abbrev pub status_of_config : ConfigKind → Status
status_of_config config_kind.Memory = Memory
status_of_config other = Faulty

abbrev pub status_of_text : TextKind → Status
status_of_text text_kind.Memory = Memory
status_of_text other = Faulty

-- after a fault
abbrev pub status_of : RunFault → Status
status_of (run.Config fault) = status_of_config fault.kind
status_of (run.Text fault) = status_of_text fault.kind
status_of run.Read = Device
status_of run.Write = Device
status_of run.Memory = Memory
status_of run.Start = Memory
status_of run.Disagree = Memory

-- after a verdict
abbrev pub status_of_verdict : Verdict → Status
status_of_verdict Yes = Done
status_of_verdict (No line) = Different
