use Rattle.std.proofs.Common.{◌≡◌, ◌≢◌, ℕ, List, Some, refl, inl, inr}
use Rattle.std.specs.Prelude.{Result}
use Rattle.fmp_cli.specs.declared.Partly.{Partly}
use Rattle.fmp_cli.specs.declared.Partly.TheVariants as asks
use Rattle.fmp_run_devices.specs.Ends.{Ends, SinkEnd, SourceEnd}
use Rattle.fmp_run_partial.specs.declared.showing.Shown.{Shown}
use Rattle.fmp_run_partial.specs.Partials.{CheckedPartly, FirstPartialFault}
use Rattle.fmp_run_texts.specs.declared.fault.RunFault.{RunFault}
use Rattle.fmp_run_texts.specs.declared.fault.RunFault.TheVariants as run
use Rattle.fmp_run_texts.specs.Texts.{FirstConfigFault}
use Rattle.fmp_run_view.specs.Runs.{IsLate, Leaves, LeavesShown}
use Rattle.fmp_run_view.specs.declared.run.PageKind.{PageKind}
use Rattle.fmp_cli_runs.specs.Partly.{page_of, shown_for}
use Rattle.fmp_cli_runs.specs.Traces.{ChecksPartly, IsPartlyPage, JudgesPartly}

-- what is asked is no page: then the lines are checked
pub checks_lines : (asked : Partly) (configs trace : Ends SourceEnd) (output : Ends SinkEnd) (result : Result Shown RunFault)
    → asked ≢ asks.Page → asked ≢ asks.DifferencesPage → ChecksPartly (shown_for asked) configs trace output result → JudgesPartly asked configs trace output result
checks_lines asks.Verdict configs trace output result page other checks = checks
checks_lines asks.First configs trace output result page other checks = checks
checks_lines asks.Each configs trace output result page other checks = checks
checks_lines asks.Order configs trace output result page other checks = checks
checks_lines asks.Page configs trace output result page other checks = absurd (page refl)
checks_lines asks.DifferencesPage configs trace output result page other checks = absurd (other refl)

-- want of memory and a write that fails are no faults of texts
pub late_config_fault : (config_text : List ℕ) (fault : RunFault) → IsLate fault → FirstConfigFault config_text fault
late_config_fault config_text fault (inl is) = rw (is) tt
late_config_fault config_text fault (inr is) = rw (is) tt

pub late_trace_fault : (config_text trace_text : List ℕ) (fault : RunFault) → IsLate fault → FirstPartialFault config_text trace_text fault
late_trace_fault config_text trace_text fault (inl is) = rw (is) tt
late_trace_fault config_text trace_text fault (inr is) = rw (is) tt

-- what is left of the page of lines is left of a page of a partial trace of which they were made
pub leaves_partly : (asked : Partly) (config_text trace_text old new : List ℕ) (shown : Shown) (kind : PageKind) (fault : RunFault)
    → CheckedPartly (shown_for asked) config_text trace_text shown → page_of asked shown.verdict ≡ Some kind
    → LeavesShown kind config_text shown.text.items old new fault → Leaves (IsPartlyPage asked config_text trace_text) old new fault
leaves_partly asked config_text trace_text old new shown kind run.Write checked paged (page, is, begins) = (page, (shown, checked, kind, paged, is), begins)
leaves_partly asked config_text trace_text old new shown kind run.Memory checked paged (inl same) = inl same
leaves_partly asked config_text trace_text old new shown kind run.Memory checked paged (inr (page, is, begins)) =
    inr (page, (shown, checked, kind, paged, is), begins)
leaves_partly asked config_text trace_text old new shown kind (run.Config fault) checked paged leaves = leaves
leaves_partly asked config_text trace_text old new shown kind (run.Text fault) checked paged leaves = leaves
leaves_partly asked config_text trace_text old new shown kind run.Read checked paged leaves = leaves
leaves_partly asked config_text trace_text old new shown kind run.Start checked paged leaves = leaves
leaves_partly asked config_text trace_text old new shown kind run.Disagree checked paged leaves = leaves
