-- How runs end the program.
use Rattle.std.proofs.Common.{◌≡◌, ◌≢◌, ◌⊎◌, ℕ, Bool, true, List, refl, sym, ap, ◌∙◌, inl, inr}
use Rattle.std.specs.Prelude.{Option, Result, Ok, Err, IfErr, String}
use Rattle.std.specs.Global.{Global}
use Rattle.fmp_cli_desk.specs.declared.ending.Ending.{Ending}
use Rattle.fmp_cli_desk.specs.declared.ending.Ending.TheVariants as ending
use Rattle.fmp_cli_desk.specs.declared.keeping.Kept.{Kept}
use Rattle.fmp_cli_desk.specs.Runs.{HasRun, kept}
use Rattle.fmp_cli_desk.specs.Texts.{AreRead, IsUnbegun, IsWhole}
use Rattle.fmp_cli.specs.declared.seeds.Seeds.{Seeds}
use Rattle.fmp_cli.specs.declared.seeds.Seeds.TheVariants as seeds
use Rattle.fmp_cli.specs.declared.smp.SmpRequest.{SmpRequest}
use Rattle.fmp_cli_diagnostics.specs.declared.option.LineForm.{LineForm}
use Rattle.fmp_cli_diagnostics.specs.declared.option.LineForm.TheVariants as form
use Rattle.fmp_cli_perform.specs.Ended.{EndsPlaying, EndsRun, by_done}
use Rattle.fmp_cli_perform.specs.Made.{IsMade}
use Rattle.fmp_cli_perform.specs.Performed.{DoesSettled, IsBegun, IsRefusal, IsUnlisted}
use Rattle.fmp_cli_perform.specs.declared.scripts.Outcome.{Outcome}
use Rattle.fmp_cli_runs.specs.Texts.{TextEnd}
use Rattle.fmp_config.specs.Limits.{most_bytes}
use Rattle.fmp_run_devices.specs.Ends.{Ends, SinkEnd}
use Rattle.fmp_run_texts.specs.declared.fault.RunFault.TheVariants as fault
use Rattle.fmp_run_texts.specs.declared.status.Status.{Status}

-- what ends a write ends what is listed
pub unlisted : (result : Result (Unit {0}) Ending) → IfErr result (λ end. (end ≡ ending.Unread) ⊎ (end ≡ ending.Fault fault.Write)) → IfErr result IsUnlisted
unlisted (Ok done) ends = tt
unlisted (Err end) ends = inr ends

-- a run that gives a status gives that
pub by_itself : (run : Result Status Ending) → run ≡ by_done (λ s. s) run
by_itself (Ok s) = refl
by_itself (Err end) = refl

-- what is kept of texts changes nothing of how a run ends the program where it goes to its end
kept_by_done : {T : Type 0} (status_of : T → Status) (run : Result T Ending) (texts : Kept) → by_done status_of (kept run texts) ≡ kept (by_done status_of run) texts
kept_by_done status_of (Ok done) texts = refl
kept_by_done status_of (Err end) texts = refl

-- a run that was not begun ends so
unbegun : {T F : Type 0} (config : Option (List ℕ)) (IsText : TextEnd → Type 0) (Promises : List ℕ → Ends TextEnd → Ends SinkEnd → Result T F → Type 0)
    (ending : F → Bool → Ending) (status_of : T → Status) (end : Ending) → IsUnbegun config end → EndsRun config IsText Promises ending status_of (Err end)
unbegun config IsText Promises ending status_of end is = (Err end, inl (end, refl, is), refl)

-- and one over texts that were read, whose result stands for another
over_texts : {T F U : Type 0} (config : Option (List ℕ)) (IsText : TextEnd → Type 0) (Promises : List ℕ → Ends TextEnd → Ends SinkEnd → Result T F → Type 0)
    (ending : F → Bool → Ending) (status_of : T → Status) (other_status : U → Status) (texts : Kept) (text : Ends TextEnd) (run : Result T Ending) (made : Result U Ending)
    → AreRead most_bytes config texts.config.items → IsText text.old → HasRun (Promises texts.config.items text) ending run
    → by_done other_status made ≡ by_done status_of run
    → EndsRun config IsText Promises ending status_of (by_done other_status (kept made texts))
over_texts config IsText Promises ending status_of other_status texts text run made read begins has same = (
  kept run texts,
  inr (record { texts = texts; read = read; over = record { text = text; begins = begins; run = run; has = has; is = refl } }),
  kept_by_done other_status made texts ∙ ap (λ result. kept result texts) same ∙ sym (kept_by_done status_of run texts),
)

-- so it is of processors that follow scripts
pub not_played : (config scripts : Option (List ℕ)) (r : SmpRequest) (seeds : Seeds) (end : Ending) → IsUnbegun config end → EndsPlaying config scripts r seeds (Err end)
not_played config scripts r (seeds.Range first last) end is = (true, unbegun config (IsWhole scripts) _ _ _ end is)
not_played config scripts r seeds.Unasked end is = unbegun config (IsWhole scripts) _ _ _ end is
not_played config scripts r seeds.Other end is = unbegun config (IsWhole scripts) _ _ _ end is

played_over : (config scripts : Option (List ℕ)) (r : SmpRequest) (seeds : Seeds) (texts : Kept) (text : Ends TextEnd) (made : Result Outcome Ending)
    → AreRead most_bytes config texts.config.items → IsWhole scripts text.old → IsMade r seeds texts.config.items text made
    → EndsPlaying config scripts r seeds (by_done (λ outcome. outcome.status) (kept made texts))
played_over config scripts r (seeds.Range first last) texts text made read begins is =
    (is.0, over_texts config (IsWhole scripts) _ _ _ _ texts text is.1 made read begins is.2 is.3)
played_over config scripts r seeds.Unasked texts text made read begins is = over_texts config (IsWhole scripts) _ _ _ _ texts text is.0 made read begins is.1 is.2
played_over config scripts r seeds.Other texts text made read begins is = over_texts config (IsWhole scripts) _ _ _ _ texts text is.0 made read begins is.1 is.2

pub played : (config scripts : Option (List ℕ)) (r : SmpRequest) (seeds : Seeds) (texts : Kept) (config_text : List ℕ) (text : Ends TextEnd)
    (made : Result Outcome Ending) (result : Result Status Ending) → IsMade r seeds config_text text made → config_text ≡ texts.config.items
    → AreRead most_bytes config texts.config.items → IsWhole scripts text.old → result ≡ by_done (λ outcome. outcome.status) (kept made texts)
    → EndsPlaying config scripts r seeds result
played config scripts r seeds texts config_text text made result is same read begins gives =
    let over : IsMade r seeds texts.config.items text made = rw (sym same) is in
    rw (gives) (played_over config scripts r seeds texts text made read begins over)

-- the form of fault lines is known
pub begun : (at : List ℕ → Option (List ℕ)) (words : List (String Global)) (line : LineForm) (s : Status) → line ≢ form.Other → IsRefusal s ⊎ DoesSettled at words s
    → IsBegun at words line s
begun at words form.Plain s is done = done
begun at words form.Gcc s is done = done
begun at words form.Other s is done = absurd (is refl)
