-- A line of which nothing is left out is a line of a trace.
use Rattle.std.proofs.Common.{◌≡◌, ℕ, ◌+◌, true, None, List, [], ◌∷◌, ◌++◌, refl, sym, ◌∙◌, ap, append_assoc}
use Rattle.std.specs.Prelude.{decimal}
use Rattle.std.proofs.lemmas.List.{append-nil}
use Rattle.fmp_codes.specs.Records.{processor_of}
use Rattle.fmp_codes.specs.declared.records.Record.{Record}
use Rattle.fmp_codes.specs.declared.records.Release.{Release}
use Rattle.fmp_names.specs.Names.{NameLists, AreValid}
use Rattle.fmp_trace.specs.Fits.{FitsNames, AllFit}
use Rattle.fmp_trace.specs.Lines.{event_text, runner_text, answer_text, release_text, releases_text, tail_text, core_text, lines_from}
use Rattle.fmp_trace.proofs.GuessedLines.{rest_text, laid}
use Rattle.fmp_trace.proofs.ReadTexts.{lines-cons}
use Rattle.fmp_trace.proofs.Unended.{line_is}
use Rattle.fmp_trace_partial.specs.Partial.{kept_release_text, kept_each, kept_tail, kept_text, bounded_text}
use Rattle.fmp_trace_partial.specs.Partly.{PartlyPrintsFrom}
use Rattle.fmp_trace_partial.specs.declared.codes_kept.AnswerKept.TheVariants as of_answer
use Rattle.fmp_trace_partial.specs.declared.codes_kept.CodeKept.TheVariants as of_code
use Rattle.fmp_trace_partial.specs.declared.kept.Kept.{Kept}
use Rattle.fmp_trace_partial.proofs.GuessedParts.{kept_laid}

-- nothing is left out
unfoldable pub whole : Kept
whole = record { number = true; runner = true; answer = of_answer.Whole; releases = of_code.Whole ∷ []; lost = true; run_change = true; requests = true }

each_whole : (names : NameLists) (rs : List Release) → kept_each names [] rs ≡ releases_text names rs
unfolding kept_release_text release_text
each_whole names [] = refl
each_whole names (r ∷ rs) = ap (λ (t : List ℕ). release_text names r ++ t) (each_whole names rs)

releases_whole : (names : NameLists) (rs : List Release) → kept_each names (of_code.Whole ∷ []) rs ≡ releases_text names rs
unfolding kept_release_text release_text
releases_whole names [] = refl
releases_whole names (r ∷ rs) = ap (λ (t : List ℕ). release_text names r ++ t) (each_whole names rs)

tail_whole : (names : NameLists) (r : Record) → kept_tail names whole r ≡ tail_text names r
unfolding whole kept_tail tail_text
tail_whole names r = let releases = releases_whole names r.releases in rw releases refl

pub whole_text : (names : NameLists) (n : ℕ) (r : Record) → AreValid names → FitsNames names r → kept_text names n whole r ≡ core_text names n r
unfolding whole rest_text
whole_text names n r valid fits =
    let event : List ℕ = event_text names r.event ++ 32 ∷ (answer_text r.answer ++ tail_text names r) in
    let following : List ℕ = decimal (processor_of r.event).number ++ 32 ∷ (runner_text names r.runner ++ 32 ∷ event) in
    let lead : (runner_text names r.runner ++ 32 ∷ []) ++ event ≡ runner_text names r.runner ++ 32 ∷ event = append_assoc (runner_text names r.runner) (32 ∷ []) event in
    let number : (decimal n ++ 32 ∷ []) ++ 80 ∷ following ≡ decimal n ++ 32 ∷ (80 ∷ following) = append_assoc (decimal n) (32 ∷ []) (80 ∷ following) in
    kept_laid names n whole r
    ∙ ap (λ (tail : List ℕ). (decimal n ++ 32 ∷ []) ++ 80 ∷ (decimal (processor_of r.event).number ++ 32 ∷ ((runner_text names r.runner ++ 32 ∷ []) ++ (event_text names r.event ++ 32 ∷ (answer_text r.answer ++ tail))))) (tail_whole names r)
    ∙ ap (λ (text : List ℕ). (decimal n ++ 32 ∷ []) ++ 80 ∷ (decimal (processor_of r.event).number ++ 32 ∷ text)) lead
    ∙ number
    ∙ sym (laid names r valid fits n)

bounded_whole : (names : NameLists) (n : ℕ) (r : Record) → AreValid names → FitsNames names r → bounded_text names n whole None r ≡ core_text names n r
unfolding bounded_text
bounded_whole names n r valid fits = append-nil (kept_text names n whole r) ∙ whole_text names n r valid fits

-- a trace partly prints its records
pub whole_prints : (names : NameLists) (n : ℕ) (text : List ℕ) (rs : List Record) → AreValid names → AllFit names rs → text ≡ lines_from names n rs → PartlyPrintsFrom names n text rs
whole_prints names n text [] valid fit lines = lines
whole_prints names n text (r ∷ rs) valid fit lines = (
  core_text names n r,
  lines_from names (n + 1) rs,
  record { parts = lines ∙ lines-cons names n r (lines_from names (n + 1) rs); unended = line_is names valid n r },
  record { kept = whole; bound = None; printed = sym (bounded_whole names n r valid fit.0); fits = fit.0; is_bound = tt },
  whole_prints names (n + 1) (lines_from names (n + 1) rs) rs valid fit.1 refl,
)
