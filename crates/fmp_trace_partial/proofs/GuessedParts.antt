-- What is kept of a printed line is guessed right.
use Rattle.std.proofs.Common.{◌≡◌, ℕ, ◌<◌, ◌^◌, Bool, true, false, not, cond, eqb, List, [], ◌∷◌, ◌++◌, length, Option, Some, None, refl, sym, ap, ◌∙◌, arith, append_assoc}
use Rattle.std.specs.Prelude.{decimal, is_some}
use Rattle.std.specs.Char.{is_digit}
use Rattle.std.specs.List.{list_all}
use Rattle.std.proofs.lemmas.Bool.{and_parts, and_from, cond_both, ne_eqb, false≢true}
use Rattle.std.proofs.lemmas.List.{append-nil}
use Rattle.std.proofs.lemmas.Fmt.{decimal_is_IsNumeral}
use Rattle.fmp_codes.specs.Records.{processor_of, ValueFits, Ascend}
use Rattle.fmp_codes.specs.declared.records.Event.{Event}
use Rattle.fmp_codes.specs.declared.records.Event.TheVariants as events
use Rattle.fmp_codes.specs.declared.records.Record.{Record}
use Rattle.fmp_codes.specs.declared.records.Runner.{Runner}
use Rattle.fmp_bytes.specs.declared.classes.Class.TheVariants.{Argument, Line}
use Rattle.fmp_bytes.specs.Bytes.{is_of, following}
use Rattle.fmp_bytes.proofs.Cutting.{cut_at-append}
use Rattle.fmp_bytes.proofs.Prefixes.{list_all-both}
use Rattle.fmp_bytes.proofs.Spelled.{following-same, list_all-digits}
use Rattle.fmp_calls.specs.Arguments.{EventInBits}
use Rattle.fmp_names.specs.Names.{NameLists, AreValid}
use Rattle.fmp_text.proofs.SpelledCalls.{line_of_call, call_is_spelled}
use Rattle.fmp_trace.specs.Fits.{RunnerFits, RunChangeFits, FitsNames}
use Rattle.fmp_trace.specs.Guess.{guess_event, guess_runner}
use Rattle.fmp_trace.specs.Lines.{event_text, runner_text, answer_text, lost_text, run_change_text, requests_from, tail_text}
use Rattle.fmp_trace.specs.Values.{call_text}
use Rattle.fmp_trace.proofs.Bytes.{other_than, decimal_bytes}
use Rattle.fmp_trace.proofs.GuessedCalls.{led, call_read}
use Rattle.fmp_trace.proofs.GuessedLines.{rest_text, event_guessed}
use Rattle.fmp_trace.proofs.GuessedRunners.{runner_guessed, runner_bytes}
use Rattle.fmp_trace.proofs.GuessedTails.{tail_words, tail-led}
use Rattle.fmp_trace.proofs.GuessedValues.{processor_guessed}
use Rattle.fmp_trace_partial.specs.Marks.{filled, marks_in}
use Rattle.fmp_trace_partial.specs.Partial.{number_text, runner_lead, kept_answer_text, kept_releases_text, kept_tail, kept_text, bound_text, bounded_text, IsBound}
use Rattle.fmp_trace_partial.specs.Said.{kept_of, guess_from, guess_on, guess_numbered, guess_plain, marked, guess_marked, guess_said}
use Rattle.fmp_trace_partial.specs.declared.kept.Kept.{Kept}
use Rattle.fmp_trace_partial.specs.declared.marks.Marks.{Marks}
use Rattle.fmp_trace_partial.specs.declared.telling.Said.{Said}
use Rattle.fmp_trace_partial.proofs.FilledLines.{AreApart, led-append, line_filled, line_marked}
use Rattle.fmp_trace_partial.proofs.FilledWords.{IsPlain, plain_argument, answer_equals, answer_seen, answer_told, kept_release_words, bound_words}
use Rattle.fmp_trace_partial.proofs.KeptWords.{other_words, releases-led, others-led, words_told, words_marked, words_end, marked_byte, answer_bytes, words_bytes, marked_apart}
use Rattle.fmp_trace_partial.proofs.RunnersReported.{runner_seen, none_seen}
use Rattle.fmp_trace_partial.proofs.ToldCodes.{told_answer, answer_written, answer_again, answer_whole, answer_fits, told_releases, written_releases, releases_again, releases_whole, releases_fit, releases_few}

-- what is told of a record: its event, and of the rest each part as far as it is kept
abbrev pub part : Kept → Record → Record
part kept r =
    record {
      event = r.event;
      runner = cond kept.runner r.runner None;
      answer = told_answer kept.answer r.answer;
      releases = told_releases kept.releases r.releases;
      lost = cond kept.lost r.lost None;
      run_change = cond kept.run_change r.run_change None;
      requests = cond kept.requests r.requests [];
    }

-- what a line leaves out of codes that keeps this of a record, and its bound
abbrev pub marks_of : Kept → Option ℕ → Record → Marks
marks_of kept bound r = record { answer = answer_written kept.answer r.answer; releases = written_releases kept.releases r.releases; bound = bound }

-- what a line says that keeps this of a record, with this bound
abbrev pub said_of : Kept → Option ℕ → Record → Said
said_of kept bound r = marked (marks_of kept bound r) (record { kept = kept_of kept.number kept.runner (part kept r); entry = part kept r; bound = None })

-- ---- what is kept fits

pub part_fits : (names : NameLists) (kept : Kept) (r : Record) → FitsNames names r → FitsNames names (part kept r)
part_fits names kept r fits = record {
  processor = fits.processor;
  event = fits.event;
  runner = cond_both kept.runner r.runner None (RunnerFits names) (λ _. fits.runner) (λ _. tt);
  answer = answer_fits kept.answer r.answer fits.answer;
  releases = releases_fit names kept.releases r.releases fits.releases;
  few = releases_few kept.releases r.releases fits.few;
  lost = cond_both kept.lost r.lost None ValueFits (λ _. fits.lost) (λ _. tt);
  run_change = cond_both kept.run_change r.run_change None (RunChangeFits names) (λ _. fits.run_change) (λ _. tt);
  requests = cond_both kept.requests r.requests [] (Ascend names.processors 0) (λ _. fits.requests) (λ _. tt);
}

-- ---- what is kept of what is kept

some_kept : {A : Type 0} (xs : List A) → cond (not (eqb (length xs) 0)) xs [] ≡ xs
some_kept [] = refl
some_kept (x ∷ xs) =
    let test : eqb (length (x ∷ xs)) 0 ≡ false = ne_eqb (length (x ∷ xs)) 0 (λ e. omega (arith, e)) in
    rw test refl

one_kept : {A : Type 0} (o : Option A) → cond (is_some o) o None ≡ o
one_kept None = refl
one_kept (Some x) = refl

-- of a record of which a part was kept, that part is kept again
again_list : {A : Type 0} (b : Bool) (xs : List A) → cond (not (eqb (length (cond b xs [])) 0)) xs [] ≡ cond b xs []
again_list true xs = some_kept xs
again_list false xs = refl

again_one : {A : Type 0} (b : Bool) (o : Option A) → cond (is_some (cond b o None)) o None ≡ cond b o None
again_one true o = one_kept o
again_one false o = refl

lead_again : (names : NameLists) (b : Bool) (runner : Option Runner) → runner_lead names b (cond b runner None) ≡ runner_lead names b runner
lead_again names true runner = refl
lead_again names false runner = refl

-- the line is that of what it says
pub said_again : (names : NameLists) (n : ℕ) (kept : Kept) (bound : Option ℕ) (r : Record) → bounded_text names n (said_of kept bound r).kept bound (part kept r) ≡ bounded_text names n kept bound r
unfolding bounded_text kept_text kept_tail
said_again names n kept bound r =
    let lead = lead_again names kept.runner r.runner in
    let answer = answer_again kept.answer r.answer in
    let releases = releases_again names kept.releases r.releases in
    let lost = one_kept (cond kept.lost r.lost None) in
    let run_change = one_kept (cond kept.run_change r.run_change None) in
    let requests = some_kept (cond kept.requests r.requests []) in
    rw (lead, answer, releases, lost, run_change, requests) refl

-- and as much of the whole record
pub said_whole : (names : NameLists) (n : ℕ) (kept : Kept) (bound : Option ℕ) (r : Record) → bounded_text names n (said_of kept bound r).kept bound r ≡ bounded_text names n kept bound r
unfolding bounded_text kept_text kept_tail
said_whole names n kept bound r =
    let answer = answer_whole kept.answer r.answer in
    let releases = releases_whole names kept.releases r.releases in
    let lost = again_one kept.lost r.lost in
    let run_change = again_one kept.run_change r.run_change in
    let requests = again_list kept.requests r.requests in
    rw (answer, releases, lost, run_change, requests) refl

-- ---- what is guessed

-- what stands from the event on
abbrev from_event : NameLists → Kept → Record → List ℕ
from_event names kept r = event_text names r.event ++ 32 ∷ (kept_answer_text kept.answer r.answer ++ kept_tail names kept r)

pub kept_laid : (names : NameLists) (n : ℕ) (kept : Kept) (r : Record)
    → kept_text names n kept r ≡ number_text kept.number n ++ 80 ∷ (decimal (processor_of r.event).number ++ 32 ∷ (runner_lead names kept.runner r.runner ++ from_event names kept r))
unfolding kept_text
kept_laid names n kept r = simp append_assoc

-- the same, where nothing is left out of what is told
abbrev told_event : NameLists → Kept → Record → List ℕ
told_event names kept r = event_text names r.event ++ 32 ∷ (answer_text (part kept r).answer ++ tail_text names (part kept r))

-- the same parts, with or without the runner
abbrev kept_by : Bool → Kept → Kept
kept_by b kept = record kept { runner = b }

module _ (names : NameLists) (r : Record) (valid : AreValid names) (fits : FitsNames names r) where
  event_found : (kept : Kept) → guess_event names (part kept r).runner (processor_of r.event) (told_event names kept r) ≡ Some (part kept r)
  unfolding rest_text
  event_found kept = event_guessed names (part kept r) valid (part_fits names kept r fits) r.event fits.event refl

  runner_apart : list_all (λ b. not (eqb b 32)) (runner_text names r.runner) ≡ true
  unfolding is_of
  runner_apart = other_than (is_of Argument) 32 refl (runner_text names r.runner) (runner_bytes names r.runner valid fits.runner)

  processor_apart : list_all (λ b. not (eqb b 32)) (decimal (processor_of r.event).number) ≡ true
  unfolding is_of
  processor_apart = other_than (is_of Argument) 32 refl (decimal (processor_of r.event).number) (decimal_bytes (processor_of r.event).number (omega (arith, (processor_of r.event).most)))

  runner_found : (kept : Kept) → guess_runner names (processor_of r.event) (runner_text names r.runner ++ 32 ∷ told_event names (kept_by true kept) r) ≡ Some (part (kept_by true kept) r)
  unfolding guess_runner
  runner_found kept =
      rw (
        cut_at-append 32 (runner_text names r.runner) (told_event names (kept_by true kept) r) runner_apart,
        runner_guessed names r.runner valid fits.runner,
      ) (event_found (kept_by true kept))

  -- what stands after the letter of the processor
  after_letter : Kept → List ℕ
  after_letter kept = decimal (processor_of r.event).number ++ 32 ∷ (runner_lead names kept.runner r.runner ++ told_event names kept r)

  abbrev IsFound : Kept → Type 0
  IsFound kept = (number : Bool) → guess_on names number (after_letter kept) ≡ Some (record { kept = kept_of number kept.runner (part kept r); entry = part kept r; bound = None })

  report_found : (kept : Kept) → IsFound (kept_by true kept)
  unfolding guess_on guess_from after_letter
  report_found kept number =
      let event = told_event names (kept_by true kept) r in
      let lead : runner_lead names true r.runner ++ event ≡ runner_text names r.runner ++ 32 ∷ event = append_assoc (runner_text names r.runner) (32 ∷ []) event in
      let seen = runner_seen names r.runner r.event (answer_text (part kept r).answer ++ tail_text names (part (kept_by true kept) r)) valid fits.runner in
      rw (
        lead,
        cut_at-append 32 (decimal (processor_of r.event).number) (runner_text names r.runner ++ 32 ∷ event) processor_apart,
        processor_guessed names (processor_of r.event) fits.processor,
        seen,
        runner_found kept,
      ) refl

  unreported_found : (kept : Kept) → IsFound (kept_by false kept)
  unfolding guess_on guess_from after_letter
  unreported_found kept number =
      let event = told_event names (kept_by false kept) r in
      let seen = none_seen names r.event (part kept r).answer (part (kept_by false kept) r) in
      rw (
        cut_at-append 32 (decimal (processor_of r.event).number) event processor_apart,
        processor_guessed names (processor_of r.event) fits.processor,
        seen,
        event_found (kept_by false kept),
      ) refl

  is_found : (runner : Bool) (kept : Kept) → IsFound (kept_by runner kept)
  is_found true kept = report_found kept
  is_found false kept = unreported_found kept

  -- digits do not begin with the letter
  no_letter : (digits rest : List ℕ) → 0 < length digits → list_all (λ b. is_digit b 10) digits ≡ true → following 80 (digits ++ rest) ≡ None
  unfolding following
  no_letter [] rest some all = absurd (omega (arith, some))
  no_letter (d ∷ digits) rest some all =
      let parts = and_parts (is_digit d 10) (list_all (λ b. is_digit b 10) digits) all in
      let other : eqb d 80 ≡ false = ne_eqb d 80 (λ e. false≢true (ap (λ b. is_digit b 10) (sym e) ∙ parts.0)) in
      rw other refl

  kept_found : (number : Bool) (n : ℕ) (kept : Kept) → n < 2 ^ 64 → guess_plain names (number_text number n ++ 80 ∷ after_letter kept) ≡ Some (record { kept = kept_of number kept.runner (part kept r); entry = part kept r; bound = None })
  unfolding guess_plain guess_numbered
  kept_found false n kept small = rw (following-same 80 (after_letter kept)) (is_found kept.runner kept false)
  kept_found true n kept small =
      let numeral = decimal_is_IsNumeral n small in
      let text : number_text true n ++ 80 ∷ after_letter kept ≡ decimal n ++ 32 ∷ (80 ∷ after_letter kept) = append_assoc (decimal n) (32 ∷ []) (80 ∷ after_letter kept) in
      let apart : list_all (λ b. not (eqb b 32)) (decimal n) ≡ true = other_than (λ b. is_digit b 10) 32 refl (decimal n) (list_all-digits 10 (decimal n) numeral.0.1) in
      rw (
        text,
        no_letter (decimal n) (32 ∷ (80 ∷ after_letter kept)) numeral.0.0 (list_all-digits 10 (decimal n) numeral.0.1),
        cut_at-append 32 (decimal n) (80 ∷ after_letter kept) apart,
        following-same 80 (after_letter kept),
      ) (is_found kept.runner kept true)

  -- ---- what is put in

  -- what stands before the answer
  unfoldable pub front : ℕ → Kept → List ℕ
  front n kept = number_text kept.number n ++ 80 ∷ (decimal (processor_of r.event).number ++ 32 ∷ (runner_lead names kept.runner r.runner ++ event_text names r.event))

  -- the words after the answer
  abbrev pub words : Kept → Option ℕ → List (List ℕ)
  words kept bound = kept_release_words names kept.releases r.releases ++ (other_words names (part kept r) ++ bound_words bound)

  bound_led : (bound : Option ℕ) → bound_text bound ≡ led 32 (bound_words bound)
  bound_led None = refl
  bound_led (Some last) = sym (append-nil (bound_text (Some last)))

  pub words_led : (kept : Kept) (bound : Option ℕ) → kept_tail names kept r ++ bound_text bound ≡ led 32 (words kept bound)
  unfolding kept_tail tail_text
  words_led kept bound =
      let front = kept_releases_text names kept.releases r.releases in
      let lost = lost_text (part kept r).lost in
      let run = run_change_text names (part kept r).run_change in
      let requests = requests_from 0 (part kept r).requests in
      let others = other_words names (part kept r) in
      let tail : kept_tail names kept r ≡ front ++ led 32 others =
      append_assoc (front ++ lost) run requests ∙ append_assoc front lost (run ++ requests) ∙ ap (λ (t : List ℕ). front ++ t) (sym (append_assoc lost run requests) ∙ others-led names (part kept r)) in
      ap (λ (t : List ℕ). t ++ bound_text bound) tail
      ∙ append_assoc front (led 32 others) (bound_text bound)
      ∙ ap (λ (t : List ℕ). front ++ (led 32 others ++ t)) (bound_led bound)
      ∙ ap (λ (t : List ℕ). front ++ t) (sym (led-append 32 others (bound_words bound)))
      ∙ ap (λ (t : List ℕ). t ++ led 32 (others ++ bound_words bound)) (releases-led names kept.releases r.releases)
      ∙ sym (led-append 32 (kept_release_words names kept.releases r.releases) (others ++ bound_words bound))

  pub front_laid : (n : ℕ) (kept : Kept) (bound : Option ℕ) → bounded_text names n kept bound r ≡ front n kept ++ 32 ∷ (kept_answer_text kept.answer r.answer ++ led 32 (words kept bound))
  unfolding front bounded_text
  front_laid n kept bound =
      let tail = sym (words_led kept bound) in
      ap (λ (t : List ℕ). t ++ bound_text bound) (kept_laid names n kept r) ∙ rw tail (simp append_assoc)

  told_laid : (n : ℕ) (kept : Kept) → front n kept ++ 32 ∷ (answer_text (part kept r).answer ++ led 32 (tail_words names (part kept r))) ≡ number_text kept.number n ++ 80 ∷ after_letter kept
  unfolding front after_letter
  told_laid n kept = let tail = sym (tail-led names (part kept r)) in rw tail (simp append_assoc)

  lead_plain : (number : Bool) (n : ℕ) → n < 2 ^ 64 → IsPlain (number_text number n)
  unfolding is_of
  lead_plain true n small = list_all-both (is_of Line) (decimal n) (32 ∷ []) (plain_argument (decimal n) (decimal_bytes n small)) refl
  lead_plain false n small = refl

  runner_plain : (kept : Bool) → IsPlain (runner_lead names kept r.runner)
  unfolding is_of
  runner_plain true = list_all-both (is_of Line) (runner_text names r.runner) (32 ∷ []) (plain_argument (runner_text names r.runner) (runner_bytes names r.runner valid fits.runner)) refl
  runner_plain false = refl

  event_plain : (e : Event) → EventInBits e → IsPlain (event_text names e)
  unfolding is_of
  event_plain (events.Call p call) event_fits = line_of_call names (call_text names call) call valid (call_is_spelled names (call_text names call) call (call_read names call valid event_fits))
  event_plain (events.Tick p) event_fits = refl
  event_plain (events.Ipi p) event_fits = refl

  front_plain : (n : ℕ) (kept : Kept) → n < 2 ^ 64 → IsPlain (front n kept)
  unfolding front is_of
  front_plain n kept small =
      let p = (processor_of r.event).number in
      let lead = runner_lead names kept.runner r.runner in
      list_all-both (is_of Line) (number_text kept.number n) (80 ∷ (decimal p ++ 32 ∷ (lead ++ event_text names r.event))) (lead_plain kept.number n small)
      (list_all-both (is_of Line) (decimal p) (32 ∷ (lead ++ event_text names r.event)) (plain_argument (decimal p) (decimal_bytes p (omega (arith, (processor_of r.event).most))))
      (list_all-both (is_of Line) lead (event_text names r.event) (runner_plain kept.runner) (event_plain r.event fits.event)))

  module _ (n : ℕ) (kept : Kept) (bound : Option ℕ) (small : n < 2 ^ 64) (is_bound : IsBound n bound) where
    answer_word : List ℕ
    answer_word = kept_answer_text kept.answer r.answer

    all_apart : AreApart (answer_word ∷ words kept bound)
    unfolding answer_word
    all_apart =
        marked_apart (answer_word ∷ words kept bound)
        (and_from (list_all marked_byte answer_word) (list_all (list_all marked_byte) (words kept bound)) (answer_bytes kept.answer r.answer fits.answer)
        (words_bytes names (part kept r) n kept.releases r.releases bound valid (part_fits names kept r fits) fits.releases is_bound))

    is_filled : filled (bounded_text names n kept bound r) ≡ number_text kept.number n ++ 80 ∷ after_letter kept
    unfolding answer_word
    is_filled =
        let last = words_end names (part kept r) valid (part_fits names kept r fits) kept.releases r.releases bound in
        let answer = answer_told kept.answer r.answer fits.answer in
        let told = words_told names (part kept r) valid (part_fits names kept r fits) kept.releases r.releases bound fits.releases in
        ap filled (front_laid n kept bound)
        ∙ line_filled (front n kept) answer_word (words kept bound) (front_plain n kept small) all_apart (answer_equals kept.answer r.answer fits.answer)
        ∙ rw (last, answer, told) (told_laid n kept)

    is_marked : marks_in (bounded_text names n kept bound r) ≡ Some (marks_of kept bound r)
    unfolding answer_word
    is_marked =
        let answer = answer_seen kept.answer r.answer fits.answer in
        ap marks_in (front_laid n kept bound)
        ∙ line_marked (front n kept) answer_word (words kept bound) (front_plain n kept small) all_apart (answer_equals kept.answer r.answer fits.answer)
        ∙ rw answer (words_marked names (part kept r) valid (part_fits names kept r fits) n (answer_written kept.answer r.answer) kept.releases r.releases bound fits.releases fits.few is_bound)

    -- a line that keeps parts of a record is guessed to say them
    pub line_found : guess_said names (bounded_text names n kept bound r) ≡ Some (said_of kept bound r)
    unfolding guess_said guess_marked
    line_found = rw (is_marked, is_filled, kept_found kept.number n kept small) refl
