-- Who makes the calls from a processor, by the configuration and the records before them.
use Rattle.std.specs.Prelude.{◌≡◌, ◌==◌, Option, Some, List, [], ◌∷◌, if◌then◌else◌, unwrap_or, option_map}
use Rattle.fmp_codes.specs.declared.numbers.Proc.{Proc}
use Rattle.fmp_codes.specs.declared.numbers.Task.{Task}
use Rattle.fmp_codes.specs.declared.records.Record.{Record}
use Rattle.fmp_codes.specs.declared.records.Runner.{Runner}
use Rattle.fmp_codes.specs.declared.records.Runner.TheVariants as runner
use Rattle.fmp_codes.specs.Records.{processor_of}
use Rattle.fmp_setup.specs.Setup.{Setup}
use Rattle.fmp_law_records.specs.Requests.{report_processor}
use Rattle.fmp_law_records.specs.Standing.{standing_at_boot, top_reported}

-- the task that p runs after a record, where it ran this one before, or none: a record tells where its processor runs another from then on
abbrev pub running_after : Proc → Record → Option Task → Option Task
running_after p r before = if (processor_of r.event).number == p.number then unwrap_or r.run_change before else before

abbrev pub running_by : Proc → List Record → Option Task → Option Task
running_by p [] before = before
running_by p (r ∷ rs) before = running_by p rs (running_after p r before)

-- after these records of a run from boot, where each processor runs its top
abbrev pub report_running : Setup → Proc → List Record → Option Task
report_running c p records = running_by p records (top_reported c (standing_at_boot c) p)

-- the first handler that is due, else the task
abbrev pub first_or_task : List Runner → Option Task → Option Runner
first_or_task [] t = option_map runner.Task t
first_or_task (h ∷ hs) t = Some h

abbrev pub report_caller : Setup → Proc → List Record → Option Runner
report_caller c p records = first_or_task (report_processor c p records).handlers.due (report_running c p records)

-- where these are the records before an event, whoever can make calls from its processor is the one that they tell
abbrev pub IsCallerReported : Setup → List Record → Record → Type 0
IsCallerReported c records r = r.runner ≡ report_caller c (processor_of r.event) records
