-- What runs promise that judge traces, or have a configuration alone.
use Rattle.std.specs.Prelude.{◌≡◌, ℕ, List, Some, Result, OnOk, IfErr, IfOk}
use Rattle.fmp_cli.specs.declared.Asked.{Asked}
use Rattle.fmp_cli.specs.declared.Partly.{Partly}
use Rattle.fmp_cli.specs.declared.Partly.TheVariants as asks
use Rattle.fmp_run_devices.specs.Devices.{IsKnown, bytes_of}
use Rattle.fmp_run_devices.specs.Ends.{Ends, SinkEnd, SourceEnd}
use Rattle.fmp_run_texts.specs.declared.fault.RunFault.{RunFault}
use Rattle.fmp_run_texts.specs.Owed.{OwesConfig, OwesSink, OwesTrace}
use Rattle.fmp_run_texts.specs.Texts.{FirstConfigFault}
use Rattle.fmp_run_texts.specs.Traces.{FirstTraceFault, IsYes, verdict_by}
use Rattle.fmp_run_texts.specs.Verdicts.{WritesAnswer}
use Rattle.fmp_run_list.specs.Runs.{WritesListing}
use Rattle.fmp_run_partial.specs.declared.showing.PartialShown.{PartialShown}
use Rattle.fmp_run_partial.specs.declared.showing.Shown.{Shown}
use Rattle.fmp_run_partial.specs.Partials.{CheckedPartly, FirstPartialFault, IsPartlyOwn}
use Rattle.fmp_run_partial.specs.Written.{plain_verdict}
use Rattle.fmp_run_smp.specs.Scripted.{Played}
use Rattle.fmp_run_view.specs.Runs as page_run
use Rattle.fmp_run_view.specs.declared.run.PageKind.{PageKind}
use Rattle.fmp_run_wave.specs.Saves.{WritesSave}
use Rattle.fmp_trace_check.specs.declared.checking.Verdict.{Verdict}
use Rattle.fmp_world.specs.declared.finishing.Ended.{Ended}
use Rattle.fmp_cli_runs.specs.declared.configs.Describing.{Describing}
use Rattle.fmp_cli_runs.specs.declared.configs.Describing.TheVariants as describing
use Rattle.fmp_cli_runs.specs.Asked.{WritesAsked}
use Rattle.fmp_cli_runs.specs.Partly.{IsPaged, page_of, shown_for}

-- What `fmpsim check`, `fmpsim wave` and `fmpsim view` promise: they write what is asked of a trace, and judge it.
pub record Judges (asked : Asked) (configs trace : Ends SourceEnd) (output : Ends SinkEnd) (result : Result Verdict RunFault) : Type 0 where
  -- What each of these runs owes to both texts and to its devices, whatever it writes. A trace that is the machine's own, as `Answers` has it, is
  -- judged with yes.
  pub owes : OwesTrace FirstTraceFault configs trace output result
  -- So is a trace of processors that follow scripts, as `Plays` has it.
  pub plays : IsKnown configs.old.left → IsKnown trace.old.left → (script_text : List ℕ) (ticks turns : ℕ) (ended : Ended)
      → Played (bytes_of configs.old.left) script_text ticks turns (bytes_of trace.old.left) ended → IsYes result
  -- What it gives and writes: what is asked for.
  pub writes : WritesAsked asked configs trace output result

-- What `fmpsim check --partial` promises: it writes this of a partial trace, and judges it.
pub record ChecksPartly (asked : PartialShown) (configs trace : Ends SourceEnd) (answer : Ends SinkEnd) (result : Result Shown RunFault) : Type 0 where
  -- What it owes to both texts and to its devices, whatever it writes.
  pub owes : OwesTrace FirstPartialFault configs trace answer (verdict_by (λ shown. plain_verdict shown.verdict) result)
  -- A trace of the machine's own of which parts may be left out is checked with yes, too.
  pub partly : IsKnown configs.old.left → IsKnown trace.old.left → IsPartlyOwn (bytes_of configs.old.left) (bytes_of trace.old.left)
      → IsYes (verdict_by (λ shown. plain_verdict shown.verdict) result)
  -- What it writes: the verdict, which is right, and what is asked for.
  pub writes : WritesAnswer (λ shown. shown.text.items) (CheckedPartly asked) configs trace answer result

-- the page of some lines, which are whole, was written, or a beginning of it, where memory was wanting or a write failed
pub record PutsPage (kind : PageKind) (config_text lines : List ℕ) (page : Ends SinkEnd) (result : Result (Unit {0}) RunFault) : Type 0 where
  pub shown : IsKnown page.old.written → OnOk result ((verdict : Verdict) × page_run.Shown kind config_text lines (bytes_of page.old.written) (bytes_of page.new.written) verdict)
  pub leaves : IsKnown page.old.written → IfErr result (page_run.LeavesShown kind config_text lines (bytes_of page.old.written) (bytes_of page.new.written))
  pub late : IfErr result page_run.IsLate
  pub sink : OwesSink page result

-- a page of the whole lines that are made of a partial trace
abbrev pub IsPartlyPage : Partly → List ℕ → List ℕ → List ℕ → Type 0
IsPartlyPage asked config_text trace_text page = (shown : Shown) × CheckedPartly (shown_for asked) config_text trace_text shown
    × (kind : PageKind) × (page_of asked shown.verdict ≡ Some kind) × page_run.IsPageOf kind config_text shown.text.items page

-- What `fmpsim view --partial` promises of a configuration's text: it judges a partial trace, and writes the page of the whole lines that are made of it, if this
-- page has some.
pub record ViewsPartly (asked : Partly) (config_text : List ℕ) (trace : Ends SourceEnd) (page : Ends SinkEnd) (result : Result Shown RunFault) : Type 0 where
  -- The verdict is right, and so are the lines that the page shows.
  pub checked : IsKnown trace.old.left → IfOk result (CheckedPartly (shown_for asked) config_text (bytes_of trace.old.left))
  -- The page that shows them is written, if there is one.
  pub shown : IsKnown page.old.written → IfOk result (λ shown. IsPaged (page_of asked shown.verdict) config_text shown.text.items
      (bytes_of page.old.written) (bytes_of page.new.written))
  -- A fault of the configuration is its first one, and one of the trace is its first one, over a configuration that has none.
  pub config_fault : IfErr result (FirstConfigFault config_text)
  pub trace_fault : IsKnown trace.old.left → IfErr result (FirstPartialFault config_text (bytes_of trace.old.left))
  -- After a failed write or flush a beginning of the page is out, after want of memory such a beginning or nothing, and after any other fault nothing.
  pub leaves : IsKnown trace.old.left → IsKnown page.old.written → IfErr result (page_run.Leaves (IsPartlyPage asked config_text (bytes_of trace.old.left))
      (bytes_of page.old.written) (bytes_of page.new.written))
  -- What it owes to its sink.
  pub sink : OwesSink page result

-- either, by what is asked for
abbrev pub JudgesPartly : Partly → Ends SourceEnd → Ends SourceEnd → Ends SinkEnd → Result Shown RunFault → Type 0
JudgesPartly asks.Page configs = ViewsPartly asks.Page (bytes_of configs.old.left)
JudgesPartly asks.DifferencesPage configs = ViewsPartly asks.DifferencesPage (bytes_of configs.old.left)
JudgesPartly asked configs = ChecksPartly (shown_for asked) configs

-- what is written of a configuration
abbrev pub WritesDescribed : Describing → Ends SourceEnd → Ends SinkEnd → Result (Unit {0}) RunFault → Type 0
-- GTKWave's save file of the configuration that the text says
WritesDescribed describing.Save = WritesSave
-- its listing
WritesDescribed describing.Listing = WritesListing

-- What `fmpsim wave --gtkw` and `fmpsim list` of a configuration promise.
pub record Describes (described : Describing) (configs : Ends SourceEnd) (output : Ends SinkEnd) (result : Result (Unit {0}) RunFault) : Type 0 where
  -- What it owes to the text and to its devices, whatever it writes.
  pub owes : OwesConfig configs output result
  -- What it writes: what is asked for.
  pub writes : WritesDescribed described configs output result
