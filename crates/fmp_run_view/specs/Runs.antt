-- What a run that shows a trace does.
use Rattle.std.specs.Prelude.{◌≡◌, ◌⊎◌, ℕ, List, [], ◌++◌, map, Result, OnOk, IfOk, IfErr}
use Rattle.fmp_codes.specs.declared.records.Record.{Record}
use Rattle.fmp_setup.specs.Setup.{Setup}
use Rattle.fmp_trace_check.specs.declared.checking.Verdict.{Verdict}
use Rattle.fmp_trace_check.specs.declared.checking.Verdict.TheVariants.{Yes, No}
use Rattle.fmp_trace_check.specs.Checking.{Judges, own_text}
use Rattle.fmp_trace_check.specs.Differences.{differences}
use Rattle.fmp_trace.specs.Prints.{PrintsWithin}
use Rattle.fmp_run_texts.specs.declared.fault.RunFault.{RunFault}
use Rattle.fmp_run_texts.specs.declared.fault.RunFault.TheVariants as run
use Rattle.fmp_run_devices.specs.Devices.{BeginsWith, IsKnown, bytes_of}
use Rattle.fmp_run_devices.specs.Ends.{Ends, SinkEnd, SourceEnd}
use Rattle.fmp_run_texts.specs.Texts.{SaysConfig}
use Rattle.fmp_run_view.specs.declared.run.PageKind.{PageKind}
use Rattle.fmp_run_view.specs.declared.run.PageKind.TheVariants.{Own, Differences}
use Rattle.fmp_run_view.specs.Given.{given_text}
use Rattle.fmp_run_view.specs.Pages.{page_of}

-- the text is what the machine answers to its own events, and this is their page
pub record ShowsOwn (c : Setup) (text page : List ℕ) : Type 0 where
  pub records : List Record
  pub prints : PrintsWithin c.names text records
  pub own : text ≡ own_text c records
  pub shown : page ≡ page_of c text [] (map (λ r. r.event) records)

-- this is the page of what the machine answers to the text's events, beside the lines of the text that differ
pub record ShowsDifferences (c : Setup) (text page : List ℕ) : Type 0 where
  pub records : List Record
  pub prints : PrintsWithin c.names text records
  pub shown : page ≡ page_of c (own_text c records) (given_text (differences c records)) (map (λ r. r.event) records)

-- this is the text's page of this kind
abbrev pub Shows : PageKind → Setup → List ℕ → List ℕ → Type 0
Shows Own c text page = ShowsOwn c text page
Shows Differences c text page = ShowsDifferences c text page

-- it was written after old, all of it
abbrev pub IsPageOut : PageKind → Setup → List ℕ → List ℕ → List ℕ → Type 0
IsPageOut kind c text old new = (page : List ℕ) × Shows kind c text page × (new ≡ old ++ page)

-- that, or nothing was written: there is no page of its own of a text that is not the machine's own
abbrev pub IsShownBy : PageKind → Setup → List ℕ → List ℕ → List ℕ → Verdict → Type 0
IsShownBy Own c text old new Yes = IsPageOut Own c text old new
IsShownBy Own c text old new (No n) = new ≡ old
IsShownBy Differences c text old new verdict = IsPageOut Differences c text old new

-- the verdict on a trace, by the machine that a text says, and what was written after old with it
pub record Shown (kind : PageKind) (config_text trace_text old new : List ℕ) (verdict : Verdict) : Type 0 where
  pub config : Setup
  pub says : SaysConfig config_text config
  pub judges : Judges config trace_text verdict
  pub shown : IsShownBy kind config trace_text old new verdict

-- the page of a trace, by the machine that a text says
abbrev pub IsPageOf : PageKind → List ℕ → List ℕ → List ℕ → Type 0
IsPageOf kind config_text trace_text page = (config : Setup) × SaysConfig config_text config × Shows kind config trace_text page

-- a beginning of such a page was written after old
abbrev pub IsBegun : (List ℕ → Type 0) → List ℕ → List ℕ → Type 0
IsBegun IsPage old new = (page : List ℕ) × IsPage page × BeginsWith old page new

-- what was written of such a page after old, where a run ends with this fault
abbrev pub Leaves : (List ℕ → Type 0) → List ℕ → List ℕ → RunFault → Type 0
Leaves IsPage old new run.Write = IsBegun IsPage old new
Leaves IsPage old new run.Memory = (new ≡ old) ⊎ IsBegun IsPage old new
Leaves IsPage old new other = new ≡ old

-- of the page of a trace
abbrev pub LeavesShown : PageKind → List ℕ → List ℕ → List ℕ → List ℕ → RunFault → Type 0
LeavesShown kind config_text trace_text = Leaves (IsPageOf kind config_text trace_text)

-- what a run that shows a trace gives and writes
pub record WritesPage (kind : PageKind) (config trace : Ends SourceEnd) (page : Ends SinkEnd) (result : Result Verdict RunFault) : Type 0 where
  -- the verdict is right, and the page was written, all of it, if there is one
  pub shown : IsKnown config.old.left → IsKnown trace.old.left → IsKnown page.old.written
      → IfOk result (Shown kind (bytes_of config.old.left) (bytes_of trace.old.left) (bytes_of page.old.written) (bytes_of page.new.written))
  -- of which nothing is held back
  pub passed : IfOk result (λ verdict. verdict ≡ Yes → page.new.buffered ≡ [])
  pub all_passed : kind ≡ Differences → OnOk result (page.new.buffered ≡ [])
  -- of a trace that is the machine's own both kinds are the same page, on which no line differs
  pub same : IsKnown config.old.left → IsKnown trace.old.left → IsKnown page.old.written
      → IfOk result (λ verdict. verdict ≡ Yes
      → Shown Own (bytes_of config.old.left) (bytes_of trace.old.left) (bytes_of page.old.written) (bytes_of page.new.written) Yes)
  -- after a failed write or flush a beginning of the page is out, after want of memory such a beginning or nothing, and after any other fault nothing
  pub leaves : IsKnown config.old.left → IsKnown trace.old.left → IsKnown page.old.written
      → IfErr result (LeavesShown kind (bytes_of config.old.left) (bytes_of trace.old.left) (bytes_of page.old.written) (bytes_of page.new.written))

-- memory ran out, or a write failed
abbrev pub IsLate : RunFault → Type 0
IsLate fault = (fault ≡ run.Memory) ⊎ (fault ≡ run.Write)
