-- How each run ends the program: by what it gives where it goes to its end, and else as its ending says. What a desk has at each path is known, or is not.
use Rattle.std.specs.Prelude.{◌≡◌, ℕ, Bool, List, [], Option, Some, is_some, Result, Ok, Err}
use Rattle.fmp_cli.specs.declared.Asked.{Asked}
use Rattle.fmp_cli.specs.declared.Partly.{Partly}
use Rattle.fmp_cli.specs.declared.Paths.{Paths}
use Rattle.fmp_cli.specs.declared.Report.{Report}
use Rattle.fmp_cli.specs.declared.seeds.Seeds.{Seeds}
use Rattle.fmp_cli.specs.declared.seeds.Seeds.TheVariants as seeds
use Rattle.fmp_cli.specs.declared.shrink.ShrinkRequest.{ShrinkRequest}
use Rattle.fmp_cli.specs.declared.smp.SmpRequest.{SmpRequest}
use Rattle.fmp_cli_desk.specs.declared.ending.Ending.{Ending}
use Rattle.fmp_cli_desk.specs.Endings.{of_life, of_run, of_search}
use Rattle.fmp_cli_desk.specs.Runs.{HasWorked}
use Rattle.fmp_cli_desk.specs.Texts.{IsNew, IsWhole}
use Rattle.fmp_cli_runs.specs.Calls.{Answers, Follows}
use Rattle.fmp_cli_runs.specs.declared.configs.Describing.{Describing}
use Rattle.fmp_cli_runs.specs.Scripts.{Plays, Seeks, Shrinks}
use Rattle.fmp_cli_runs.specs.Texts.{OverBytes, TextEnd, source_of}
use Rattle.fmp_cli_runs.specs.Traces.{Describes, Judges, JudgesPartly}
use Rattle.fmp_run_devices.specs.Ends.{Ends, SinkEnd}
use Rattle.fmp_run_partial.specs.Written.{status_of_partial}
use Rattle.fmp_run_seeds.specs.Found as found
use Rattle.fmp_run_texts.specs.Statuses.{status_of_verdict}
use Rattle.fmp_run_texts.specs.declared.status.Status.{Status}
use Rattle.fmp_run_texts.specs.declared.status.Status.TheVariants as status

-- what a run gives that went to its end decides how it ends the program
abbrev pub by_done : {T : Type 0} → (T → Status) → Result T Ending → Result Status Ending
by_done status_of (Ok done) = Ok (status_of done)
by_done status_of (Err end) = Err end

-- a run over a configuration of which this is known, and over a text of which this holds, that promised so and ends the program so
abbrev pub EndsRun : {T F : Type 0} → Option (List ℕ) → (TextEnd → Type 0) → (List ℕ → Ends TextEnd → Ends SinkEnd → Result T F → Type 0)
    → (F → Bool → Ending) → (T → Status) → Result Status Ending → Type 0
EndsRun {T} config IsText Promises ending status_of result = (run : Result T Ending) × HasWorked config IsText Promises ending run × (result ≡ by_done status_of run)

-- ---- each run, where `at` is what a desk has at a path

abbrev pub EndsAnswering : (List ℕ → Option (List ℕ)) → Paths → Report → Result Status Ending → Type 0
EndsAnswering at paths report = EndsRun (at paths.config.now) (IsNew (at paths.text.now))
    (λ config text output ended. OverBytes config (λ configs. Answers report configs text output ended)) of_run (λ s. s)

abbrev pub EndsFollowing : (List ℕ → Option (List ℕ)) → Paths → List ℕ → Result Status Ending → Type 0
EndsFollowing at paths names = EndsRun (at paths.config.now) (IsNew (at paths.text.now))
    (λ config text output ended. OverBytes config (λ configs. Follows names configs text output ended)) of_life (λ done. status.Done)

abbrev pub EndsJudging : (List ℕ → Option (List ℕ)) → Paths → Asked → Result Status Ending → Type 0
EndsJudging at paths asked = EndsRun (at paths.config.now) (IsWhole (at paths.text.now))
    (λ config text output ended. OverBytes config (λ configs. Judges asked configs (source_of text) output ended)) of_run status_of_verdict

abbrev pub EndsJudgingPartly : (List ℕ → Option (List ℕ)) → Paths → Partly → Result Status Ending → Type 0
EndsJudgingPartly at paths asked = EndsRun (at paths.config.now) (IsWhole (at paths.text.now))
    (λ config text output ended. OverBytes config (λ configs. JudgesPartly asked configs (source_of text) output ended)) of_run
    (λ shown. status_of_partial shown.verdict)

abbrev pub EndsDescribing : (List ℕ → Option (List ℕ)) → List ℕ → Describing → Result Status Ending → Type 0
EndsDescribing at path describing = EndsRun (at path) (IsNew (Some []))
    (λ config text output ended. OverBytes config (λ configs. Describes describing configs output ended)) of_run (λ done. status.Done)

abbrev pub EndsShrinking : (List ℕ → Option (List ℕ)) → ShrinkRequest → Result Status Ending → Type 0
EndsShrinking at r = EndsRun (at r.config.now) (IsWhole (at r.events.now))
    (λ config text output ended. OverBytes config (λ configs. Shrinks r configs (source_of text) output ended)) of_search (λ s. s)

-- processors that follow scripts: one run, or those of some seeds
abbrev pub EndsPlayingOnce : Option (List ℕ) → Option (List ℕ) → SmpRequest → Result Status Ending → Type 0
EndsPlayingOnce config scripts r = EndsRun config (IsWhole scripts)
    (λ config text output ended. OverBytes config (λ configs. Plays r configs (source_of text) output ended)) of_run (λ played. played.status)

abbrev pub EndsPlaying : Option (List ℕ) → Option (List ℕ) → SmpRequest → Seeds → Result Status Ending → Type 0
EndsPlaying config scripts r (seeds.Range first last) result = (over : Bool) × EndsRun config (IsWhole scripts)
    (λ config text output ended. OverBytes config (λ configs. Seeks r first last over configs (source_of text) output ended)) of_search
    (found.status_of (is_some r.find)) result
EndsPlaying config scripts r seeds.Unasked result = EndsPlayingOnce config scripts r result
EndsPlaying config scripts r seeds.Other result = EndsPlayingOnce config scripts r result
