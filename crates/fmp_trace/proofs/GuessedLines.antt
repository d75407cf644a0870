-- A printed line is guessed right, and its bytes are printed ones.
use Rattle.std.proofs.Common.{◌≡◌, ℕ, ◌<◌, ◌^◌, true, not, eqb, List, [], ◌∷◌, ◌++◌, Some, refl, sym, ap, ◌∙◌, arith, append_assoc}
use Rattle.std.specs.Prelude.{decimal}
use Rattle.std.specs.List.{list_all}
use Rattle.std.proofs.lemmas.Bool.{and_parts, and_from}
use Rattle.fmp_codes.specs.declared.calls.Call.{Call}
use Rattle.fmp_codes.specs.declared.numbers.Proc.{Proc}
use Rattle.fmp_codes.specs.declared.records.Event.{Event}
use Rattle.fmp_codes.specs.declared.records.Event.TheVariants as events
use Rattle.fmp_codes.specs.declared.records.Record.{Record}
use Rattle.fmp_bytes.specs.declared.classes.Class.TheVariants.{Argument, Printed}
use Rattle.fmp_bytes.specs.Bytes.{is_of, cut_at, pieces_of}
use Rattle.fmp_bytes.proofs.Cutting.{pieces_left, cut_at-append, pieces_of-cut, pieces_of-join}
use Rattle.fmp_bytes.proofs.Prefixes.{list_all-weaker, list_all-both}
use Rattle.fmp_bytes.proofs.Spelled.{following-same}
use Rattle.fmp_calls.proofs.Matched.{no_tick, no_ipi}
use Rattle.fmp_calls.specs.Arguments.{CallInBits, EventInBits}
use Rattle.fmp_codes.specs.Records.{processor_of}
use Rattle.fmp_names.specs.Names.{NameLists, AreValid}
use Rattle.fmp_trace.specs.Fits.{FitsNames}
use Rattle.fmp_trace.specs.Guess.{guess_answer, guess_call, guess_event, guess_runner, guess_processor, guess}
use Rattle.fmp_trace.specs.Lines.{event_text, runner_text, answer_text, tail_text, head_text, core_text}
use Rattle.fmp_trace.specs.Values.{call_text}
use Rattle.fmp_trace.proofs.Bytes.{other_than, solid, printed-solid, solid-argument, decimal_bytes}
use Rattle.fmp_trace.proofs.GuessedCalls.{led, join-led, call_word, call_cut, call_read, call_printed}
use Rattle.fmp_trace.proofs.GuessedRunners.{runner_guessed, runner_bytes}
use Rattle.fmp_trace.proofs.GuessedTails.{tail_words, tail-led, tail_guessed, tail_solid, answer_solid, AllSolid}
use Rattle.fmp_trace.proofs.GuessedValues.{processor_guessed, answer_guessed}

words_apart : (words : List (List ℕ)) → AllSolid words → list_all (list_all (λ b. not (eqb b 32))) words ≡ true
unfolding is_of
words_apart [] all = refl
words_apart (word ∷ words) all =
    let parts = and_parts (list_all solid word) (list_all (list_all solid) words) all in
    and_from (list_all (λ b. not (eqb b 32)) word) (list_all (list_all (λ b. not (eqb b 32))) words) (other_than solid 32 refl word parts.0) (words_apart words parts.1)

led_printed : (words : List (List ℕ)) → AllSolid words → list_all (is_of Printed) (led 32 words) ≡ true
unfolding is_of
led_printed [] all = refl
led_printed (word ∷ words) all =
    let parts = and_parts (list_all solid word) (list_all (list_all solid) words) all in
    list_all-both (is_of Printed) word (led 32 words) (list_all-weaker solid (is_of Printed) printed-solid word parts.0) (led_printed words parts.1)

module _ (names : NameLists) (r : Record) (valid : AreValid names) (fits : FitsNames names r) where
  -- what stands after the event and its blank
  unfoldable pub rest_text : List ℕ
  rest_text = answer_text r.answer ++ tail_text names r

  all_solid : AllSolid (answer_text r.answer ∷ tail_words names r)
  all_solid = and_from (list_all solid (answer_text r.answer)) (list_all (list_all solid) (tail_words names r)) (answer_solid r.answer fits.answer) (tail_solid names r valid fits.releases fits.lost fits.run_change)

  rest_pieces : pieces_of 32 rest_text ≡ answer_text r.answer ∷ tail_words names r
  unfolding rest_text
  rest_pieces =
      ap (λ (t : List ℕ). pieces_of 32 (answer_text r.answer ++ t)) (tail-led names r)
      ∙ ap (pieces_of 32) (sym (join-led 32 (answer_text r.answer) (tail_words names r)))
      ∙ pieces_of-join 32 (answer_text r.answer ∷ tail_words names r) (omega arith) (words_apart (answer_text r.answer ∷ tail_words names r) all_solid)

  rest_guessed : guess_answer names r.runner r.event (32 ∷ rest_text) ≡ Some r
  unfolding guess_answer
  rest_guessed =
      let whole = sym (pieces_of-cut 32 rest_text) ∙ rest_pieces in
      let first : (cut_at 32 rest_text).0 ≡ answer_text r.answer = cc in
      let words : pieces_left 32 (cut_at 32 rest_text).1 ≡ tail_words names r = cc in
      rw (following-same 32 rest_text, first, answer_guessed r.answer fits.answer, words) (tail_guessed names r valid fits.releases fits.few fits.lost fits.run_change fits.requests)

  call_guessed : (p : Proc) (call : Call) → CallInBits call → r.event ≡ events.Call p call → guess_event names r.runner p (call_text names call ++ 32 ∷ rest_text) ≡ Some r
  unfolding guess_event guess_call
  call_guessed p call call_fits is_event =
      let word = (call_word names call rest_text).0 in
      let tick = no_tick call in let ipi = no_ipi call in
      rw (word, tick, ipi, call_cut names call rest_text valid call_fits, call_read names call valid call_fits, ← is_event) rest_guessed

  pub event_guessed : (e : Event) → EventInBits e → r.event ≡ e → guess_event names r.runner (processor_of e) (event_text names e ++ 32 ∷ rest_text) ≡ Some r
  unfolding guess_event is_of
  event_guessed (events.Call p call) event_fits is_event = call_guessed p call event_fits is_event
  event_guessed (events.Tick p) event_fits is_event = rw (← is_event) rest_guessed
  event_guessed (events.Ipi p) event_fits is_event = rw (← is_event) rest_guessed

  pub laid : (n : ℕ) → core_text names n r ≡ decimal n ++ 32 ∷ (80 ∷ (decimal (processor_of r.event).number ++ 32 ∷ (runner_text names r.runner ++ 32 ∷ (event_text names r.event ++ 32 ∷ rest_text))))
  unfolding core_text head_text rest_text
  laid n = simp append_assoc

  pub line_guessed : (n : ℕ) → n < 2 ^ 64 → guess names (core_text names n r) ≡ Some r
  unfolding guess guess_processor guess_runner is_of
  line_guessed n small =
      let p = (processor_of r.event).number in
      let number = other_than (is_of Argument) 32 refl (decimal n) (decimal_bytes n small) in
      let processor = other_than (is_of Argument) 32 refl (decimal (processor_of r.event).number) (decimal_bytes (processor_of r.event).number (omega (arith, (processor_of r.event).most))) in
      let runner = other_than (is_of Argument) 32 refl (runner_text names r.runner) (runner_bytes names r.runner valid fits.runner) in
      rw (
        laid n,
        cut_at-append 32 (decimal n) (80 ∷ (decimal (processor_of r.event).number ++ 32 ∷ (runner_text names r.runner ++ 32 ∷ (event_text names r.event ++ 32 ∷ rest_text)))) number,
        following-same 80 (decimal (processor_of r.event).number ++ 32 ∷ (runner_text names r.runner ++ 32 ∷ (event_text names r.event ++ 32 ∷ rest_text))),
        cut_at-append 32 (decimal (processor_of r.event).number) (runner_text names r.runner ++ 32 ∷ (event_text names r.event ++ 32 ∷ rest_text)) processor,
        processor_guessed names (processor_of r.event) fits.processor,
        cut_at-append 32 (runner_text names r.runner) (event_text names r.event ++ 32 ∷ rest_text) runner,
        runner_guessed names r.runner valid fits.runner,
      ) (event_guessed r.event fits.event refl)

  argument_printed : (text : List ℕ) → list_all (is_of Argument) text ≡ true → list_all (is_of Printed) text ≡ true
  argument_printed text all = list_all-weaker (is_of Argument) (is_of Printed) (λ b h. printed-solid b (solid-argument b h)) text all

  rest_printed : list_all (is_of Printed) rest_text ≡ true
  unfolding rest_text
  rest_printed =
      list_all-both (is_of Printed) (answer_text r.answer) (tail_text names r) (list_all-weaker solid (is_of Printed) printed-solid (answer_text r.answer) (answer_solid r.answer fits.answer))
      (ap (list_all (is_of Printed)) (tail-led names r) ∙ led_printed (tail_words names r) (tail_solid names r valid fits.releases fits.lost fits.run_change))

  event_printed : (e : Event) → EventInBits e → list_all (is_of Printed) (event_text names e) ≡ true
  unfolding is_of
  event_printed (events.Call p call) event_fits = call_printed names call valid event_fits
  event_printed (events.Tick p) event_fits = refl
  event_printed (events.Ipi p) event_fits = refl

  pub line_printed : (n : ℕ) → n < 2 ^ 64 → list_all (is_of Printed) (core_text names n r) ≡ true
  unfolding is_of
  line_printed n small =
      let spaced : (text rest : List ℕ) → list_all (is_of Printed) text ≡ true → list_all (is_of Printed) rest ≡ true → list_all (is_of Printed) (text ++ 32 ∷ rest) ≡ true = λ text rest a b. list_all-both (is_of Printed) text (32 ∷ rest) a b in
      let event = spaced (event_text names r.event) rest_text (event_printed r.event fits.event) rest_printed in
      let runner = spaced (runner_text names r.runner) (event_text names r.event ++ 32 ∷ rest_text) (argument_printed (runner_text names r.runner) (runner_bytes names r.runner valid fits.runner)) event in
      let processor = spaced (decimal (processor_of r.event).number) (runner_text names r.runner ++ 32 ∷ (event_text names r.event ++ 32 ∷ rest_text)) (argument_printed (decimal (processor_of r.event).number) (decimal_bytes (processor_of r.event).number (omega (arith, (processor_of r.event).most)))) runner in
      ap (list_all (is_of Printed)) (laid n)
      ∙ spaced (decimal n) (80 ∷ (decimal (processor_of r.event).number ++ 32 ∷ (runner_text names r.runner ++ 32 ∷ (event_text names r.event ++ 32 ∷ rest_text)))) (argument_printed (decimal n) (decimal_bytes n small)) processor
