-- What is kept of a printed line is made of printed bytes.
use Rattle.std.proofs.Common.{◌≡◌, ℕ, ◌<◌, ◌^◌, Bool, true, false, List, [], ◌∷◌, ◌++◌, Option, refl, sym, ap, ◌∙◌}
use Rattle.std.specs.Prelude.{decimal}
use Rattle.std.specs.List.{list_all}
use Rattle.fmp_codes.specs.Records.{processor_of}
use Rattle.fmp_codes.specs.declared.records.Record.{Record}
use Rattle.fmp_codes.specs.declared.records.Runner.{Runner}
use Rattle.fmp_bytes.specs.declared.classes.Class.TheVariants.{Argument, Printed}
use Rattle.fmp_bytes.specs.Bytes.{is_of}
use Rattle.fmp_bytes.proofs.Prefixes.{list_all-both, list_all-parts, list_all-weaker}
use Rattle.fmp_names.specs.Names.{NameLists, AreValid}
use Rattle.fmp_trace.specs.Fits.{FitsNames}
use Rattle.fmp_trace.specs.Lines.{event_text, runner_text, answer_text, tail_text}
use Rattle.fmp_trace.proofs.Bytes.{printed-solid, solid-argument}
use Rattle.fmp_trace.proofs.GuessedCalls.{led}
use Rattle.fmp_trace.proofs.GuessedLines.{rest_text, laid, line_printed}
use Rattle.fmp_trace.proofs.GuessedRunners.{runner_bytes}
use Rattle.fmp_trace_partial.specs.Partial.{number_text, runner_lead, kept_answer_text, bounded_text, IsBound}
use Rattle.fmp_trace_partial.specs.declared.kept.Kept.{Kept}
use Rattle.fmp_trace_partial.proofs.GuessedParts.{part, part_fits, front, front_laid, words}
use Rattle.fmp_trace_partial.proofs.KeptWords.{marked_byte, printed-marked, answer_bytes, words_bytes, marked_printed}

abbrev IsPrinted : List ℕ → Type 0
IsPrinted text = list_all (is_of Printed) text ≡ true

lead_printed : (number : Bool) (n : ℕ) → IsPrinted (decimal n) → IsPrinted (number_text number n)
unfolding is_of
lead_printed true n printed = list_all-both (is_of Printed) (decimal n) (32 ∷ []) printed refl
lead_printed false n printed = refl

runner_printed : (names : NameLists) (kept : Bool) (runner : Option Runner) → IsPrinted (runner_text names runner) → IsPrinted (runner_lead names kept runner)
unfolding is_of
runner_printed names true runner printed = list_all-both (is_of Printed) (runner_text names runner) (32 ∷ []) printed refl
runner_printed names false runner printed = refl

pub kept_printed : (names : NameLists) (r : Record) → AreValid names → FitsNames names r → (n : ℕ) (kept : Kept) (bound : Option ℕ) → n < 2 ^ 64 → IsBound n bound → IsPrinted (bounded_text names n kept bound r)
unfolding is_of rest_text front
kept_printed names r valid fits n kept bound small is_bound =
    let p = processor_of r.event in
    let q = part kept r in
    let q_fits = part_fits names kept r fits in
    let event : List ℕ = event_text names r.event ++ 32 ∷ (answer_text q.answer ++ tail_text names q) in
    let whole = ap (list_all (is_of Printed)) (sym (laid names q valid q_fits n)) ∙ line_printed names q valid q_fits n small in
    let number = list_all-parts (is_of Printed) (decimal n) (32 ∷ (80 ∷ (decimal p.number ++ 32 ∷ (runner_text names q.runner ++ 32 ∷ event)))) whole in
    let processor = list_all-parts (is_of Printed) (decimal p.number) (32 ∷ (runner_text names q.runner ++ 32 ∷ event)) number.1 in
    let runner = list_all-parts (is_of Printed) (runner_text names q.runner) (32 ∷ event) processor.1 in
    let text = list_all-parts (is_of Printed) (event_text names r.event) (32 ∷ (answer_text q.answer ++ tail_text names q)) runner.1 in
    let lead = runner_lead names kept.runner r.runner in
    let answer = kept_answer_text kept.answer r.answer in
    let written : IsPrinted (runner_text names r.runner) = list_all-weaker (is_of Argument) (is_of Printed) (λ b h. printed-solid b (solid-argument b h)) (runner_text names r.runner) (runner_bytes names r.runner valid fits.runner) in
    let before : IsPrinted (front names r valid fits n kept) =
    list_all-both (is_of Printed) (number_text kept.number n) (80 ∷ (decimal p.number ++ 32 ∷ (lead ++ event_text names r.event))) (lead_printed kept.number n number.0)
    (list_all-both (is_of Printed) (decimal p.number) (32 ∷ (lead ++ event_text names r.event)) processor.0
    (list_all-both (is_of Printed) lead (event_text names r.event) (runner_printed names kept.runner r.runner written) text.0)) in
    let after = words names r valid fits kept bound in
    ap (list_all (is_of Printed)) (front_laid names r valid fits n kept bound)
    ∙ list_all-both (is_of Printed) (front names r valid fits n kept) (32 ∷ (answer ++ led 32 after)) before
    (list_all-both (is_of Printed) answer (led 32 after) (list_all-weaker marked_byte (is_of Printed) printed-marked answer (answer_bytes kept.answer r.answer fits.answer))
    (marked_printed after (words_bytes names q n kept.releases r.releases bound valid q_fits fits.releases is_bound)))
