-- What requests ask for.
use Rattle.std.specs.Prelude.{ℕ, ◌||◌, List, [], Option, Result, option_map, if◌then◌else◌}
use Rattle.std.specs.Borrow.{Bor}
use Rattle.fmp_run_texts.specs.declared.fault.RunFault.{RunFault}
use Rattle.fmp_run_texts.specs.Traces.{Checked}
use Rattle.fmp_run_texts.specs.Verdicts.{WritesVerdict}
use Rattle.fmp_run_devices.specs.Ends.{Ends, SinkEnd, SourceEnd}
use Rattle.fmp_run_events.specs.Reports.{WritesReport}
use Rattle.fmp_run_wave.specs.Runs.{WritesWave}
use Rattle.fmp_run_view.specs.Runs.{WritesPage}
use Rattle.fmp_trace_check.specs.declared.checking.Verdict.{Verdict}
use Rattle.fmp_search_orders.specs.declared.rules.Rules.{Rules}
use Rattle.fmp_cli.specs.declared.explore.ExploreRequest.{ExploreRequest}
use Rattle.fmp_cli.specs.declared.smp.SmpRequest.{SmpRequest}
use Rattle.fmp_run_seeds.specs.declared.orders.SeedOrder.TheVariants.{Drawn, InTurn}
use Rattle.fmp_run_seeds.specs.declared.orders.SeedRuns.{SeedRuns}
use Rattle.fmp_run_view.specs.declared.run.PageKind.TheVariants as kind
use Rattle.fmp_cli.specs.declared.Asked.{Asked}
use Rattle.fmp_cli.specs.declared.Asked.TheVariants as asked
use Rattle.fmp_cli.specs.declared.Report.{Report}
use Rattle.fmp_cli.specs.declared.Report.TheVariants.{Changes, Line, State}
use Rattle.fmp_run_stream.specs.declared.stream.Detail.{Detail}
use Rattle.fmp_run_stream.specs.declared.stream.Detail.TheVariants as detail
use Rattle.fmp_run_stream.specs.Details.{detail_of}
use Rattle.fmp_run_stream.specs.Runs.{Writing}

-- which orders are gone through
abbrev pub rules_of : ExploreRequest → Rules
rules_of r = record { ticks = r.ticks; prompt = r.prompt; drift = r.drift; pace = r.pace; spurious = r.spurious }

-- which runs seeds make: without `--late` and `--stalls` processors take turns
abbrev pub runs_of : SmpRequest → SeedRuns
runs_of r = record {
  order = if r.late || r.stalls then Drawn (record { late = r.late; stalls = r.stalls }) else InTurn;
  limits = r.limits;
}

-- what is looked for in them, where that is a question
abbrev pub question_of : SmpRequest → Option (List ℕ)
question_of r = option_map (λ (text : Bor (List ℕ)). text.now) r.find

-- what is written of each event
abbrev pub detail_reported : Report → Detail
detail_reported Line = detail.Line
detail_reported State = detail.State
detail_reported Changes = detail.Changes []

-- how that is written of a list of them
abbrev pub writing_of : Report → Writing
writing_of report = detail_of (detail_reported report)

-- what a run gives and writes of a trace, by what is asked for
abbrev pub WritesAsked : Asked → Ends SourceEnd → Ends SourceEnd → Ends SinkEnd → Result Verdict RunFault → Type 0
-- the verdict alone
WritesAsked asked.Verdict = WritesVerdict Checked
-- the lines that differ
WritesAsked (asked.Differences shown) = WritesReport shown
-- the waveform of a trace that is the machine's own
WritesAsked asked.Waveform = WritesWave
-- the page of such a trace
WritesAsked asked.Page = WritesPage kind.Own
-- the page of what the machine answers to the events of any trace, beside the lines that differ
WritesAsked asked.DifferencesPage = WritesPage kind.Differences
