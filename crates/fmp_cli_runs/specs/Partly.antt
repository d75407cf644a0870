-- What is made of a partial trace of which something is asked.
use Rattle.std.specs.Prelude.{◌≡◌, ℕ, List, Option, None, Some}
use Rattle.fmp_cli.specs.declared.Partly.{Partly}
use Rattle.fmp_cli.specs.declared.Partly.TheVariants as asks
use Rattle.fmp_run_partial.specs.declared.showing.PartialShown.{PartialShown}
use Rattle.fmp_run_partial.specs.declared.showing.PartialShown.TheVariants as shown
use Rattle.fmp_run_partial.specs.declared.verdict.PartialVerdict.{PartialVerdict}
use Rattle.fmp_run_partial.specs.declared.verdict.PartialVerdict.TheVariants as verdicts
use Rattle.fmp_run_view.specs.Runs as view
use Rattle.fmp_run_view.specs.declared.run.PageKind.{PageKind}
use Rattle.fmp_run_view.specs.declared.run.PageKind.TheVariants as pages
use Rattle.fmp_trace_check.specs.declared.checking.Verdict.{Verdict}

-- what is written of it, or shown by a page
abbrev pub shown_for : Partly → PartialShown
shown_for asks.Verdict = shown.Verdict
shown_for asks.First = shown.First
shown_for asks.Each = shown.Each
shown_for asks.Order = shown.Order
shown_for asks.Page = shown.Order
shown_for asks.DifferencesPage = shown.Filled

-- which page shows whole lines that were made of it, by the verdict, if there are some
abbrev pub page_of : Partly → PartialVerdict → Option PageKind
page_of asked verdicts.Yes = Some pages.Own
page_of asked (verdicts.YesTo line) = Some pages.Own
page_of asks.DifferencesPage (verdicts.No k) = Some pages.Differences
page_of asked _ = None

-- the page of this kind of these lines was written after old, or nothing
abbrev pub IsPaged : Option PageKind → List ℕ → List ℕ → List ℕ → List ℕ → Type 0
IsPaged None config_text lines old new = new ≡ old
IsPaged (Some kind) config_text lines old new = (verdict : Verdict) × view.Shown kind config_text lines old new verdict
