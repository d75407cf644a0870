-- What is collected of a text that prints records: where it differs from the machine's own.
use Rattle.std.proofs.Common.{◌≡◌, ℕ, ◌+◌, ◌<◌, ◌^◌, ◌⊎◌, inl, inr, List, [], ◌∷◌, ◌++◌, length, Some, Result, Ok, Err, IfOk, IfErr, refl, sym, ap, subst, ◌∙◌, arith}
use Rattle.std.proofs.lemmas.Bool.{cases_Bool}
use Rattle.std.proofs.lemmas.List.{append-nil}
use Rattle.std.specs.Str.{bytes_eq}
use Rattle.fmp_bytes.specs.Bytes.{pieces_of}
use Rattle.fmp_bytes.proofs.Parsed.{bind_parts}
use Rattle.fmp_codes.specs.declared.records.Event.{Event}
use Rattle.fmp_codes.specs.declared.records.Record.{Record}
use Rattle.fmp_rules.specs.Boot.{booted}
use Rattle.fmp_rules.specs.Arrivals.{State, numbered}
use Rattle.fmp_setup.specs.Setup.{Setup}
use Rattle.fmp_rules.specs.Step.{step}
use Rattle.fmp_setup.specs.Valid.{IsValid}
use Rattle.fmp_names.specs.Names.{NameLists, AreValid}
use Rattle.fmp_text.specs.declared.fault.TextFault.{TextFault}
use Rattle.fmp_text.specs.Events.{IsMemory}
use Rattle.fmp_trace_check.specs.declared.checking.Verdict.{Verdict}
use Rattle.fmp_trace_check.specs.declared.checking.Verdict.TheVariants.{Yes}
use Rattle.fmp_trace_check.specs.declared.comparing.Comparison.{Comparison}
use Rattle.fmp_trace_check.specs.declared.comparing.Shown.{Shown}
use Rattle.fmp_trace_check.specs.declared.comparing.Shown.TheVariants.{First, Each}
use Rattle.fmp_trace_check.specs.Checking.{Judges, PrintsAnswers, cores_from, checked, verdict_at}
use Rattle.fmp_trace_check.specs.Comparing.{Found, found_of, hunks_from, shown_at, found_in}
use Rattle.fmp_trace_check.specs.Differences.{Difference, differences_from, differences, verdict_of, shown_of, difference_text, differences_text, Contrasts}
use Rattle.fmp_trace_check.specs.Walking.{stop_from, stop_in}
use Rattle.fmp_trace.specs.Fits.{AllFit}
use Rattle.fmp_trace.specs.Heads.{event_of}
use Rattle.fmp_trace.specs.Lines.{core_text, lines_from}
use Rattle.fmp_trace.specs.Prints.{PrintsWithin, FirstFault}
use Rattle.fmp_trace.specs.Reading.{GivesOrFails, records_in}
use Rattle.fmp_trace_check.proofs.Hunks.{hunks_from-line}
use Rattle.fmp_trace_check.proofs.CheckedTexts.{report, stop_reported, is_judged, has_one, is_answered, is_reading_fault}
use Rattle.fmp_trace.proofs.GuessedLines.{line_guessed}
use Rattle.fmp_trace.proofs.Headed.{guess-event}
use Rattle.fmp_trace.proofs.ReadTexts.{lines_pieces, read_prints}

-- the differences between the records' lines and the machine's own, from line n on
abbrev pub differing : NameLists → State → ℕ → List Record → List Difference
differing names w n rs = differences_from n (cores_from names n rs) (cores_from names n (report w rs))

-- ---- what is found of lines that print records

hunks_reported : (names : NameLists) (w : State) (n : ℕ) (rs : List Record) → AreValid names → AllFit names rs → n + length rs < 2 ^ 64
    → hunks_from names w n (pieces_of 10 (lines_from names n rs)) ≡ differences_text Each (differing names w n rs)
unfolding hunks_from pieces_of
hunks_reported names w n [] valid fit few = refl
hunks_reported names w n (r ∷ rs) valid fit few =
    let small : n < 2 ^ 64 = omega (arith, few) in
    let event : event_of names (core_text names n r) ≡ Some r.event = guess-event names (core_text names n r) r (line_guessed names r valid fit.0 n small) in
    let rest = hunks_reported names (step numbered w r.event).0 (n + 1) rs valid fit.1 (omega (arith, few)) in
    elim (cases_Bool (bytes_eq (core_text names n (step numbered w r.event).1) (core_text names n r))) [
      | inl t ↦ rw (lines_pieces names n r rs valid, hunks_from-line, event, t) rest
      | inr f ↦ rw (lines_pieces names n r rs valid, hunks_from-line, event, f) (ap (λ (text : List ℕ). difference_text Each (record { number = n; line = core_text names n r; own = core_text names n (step numbered w r.event).1 }) ++ text) rest)
    ]

verdict_all : (names : NameLists) (w : State) (n : ℕ) (rs : List Record) → AreValid names → AllFit names rs → n + length rs < 2 ^ 64
    → verdict_at (stop_from names w n (pieces_of 10 (lines_from names n rs))) ≡ verdict_of (differing names w n rs)
unfolding stop_from pieces_of
verdict_all names w n [] valid fit few = refl
verdict_all names w n (r ∷ rs) valid fit few =
    let stop_is = stop_reported names w n r rs valid (omega (arith, few)) fit in
    let rest = verdict_all names (step numbered w r.event).0 (n + 1) rs valid fit.1 (omega (arith, few)) in
    elim (cases_Bool (bytes_eq (core_text names n (step numbered w r.event).1) (core_text names n r))) [
      | inl t ↦ rw (stop_is, t) rest
      | inr f ↦ rw (stop_is, f) refl
    ]

first_shown : (d : Difference) (ds : List Difference) → difference_text First d ≡ differences_text First (shown_of First (d ∷ ds))
first_shown d ds = sym (append-nil (difference_text First d))

none_at_all : (shown : Shown) → [] ≡ differences_text shown (shown_of shown [])
none_at_all First = refl
none_at_all Each = refl

shown_all : (shown : Shown) (names : NameLists) (w : State) (n : ℕ) (rs : List Record) → AreValid names → AllFit names rs → n + length rs < 2 ^ 64
    → shown_at shown names (stop_from names w n (pieces_of 10 (lines_from names n rs))) ≡ differences_text shown (shown_of shown (differing names w n rs))
unfolding stop_from pieces_of
shown_all shown names w n [] valid fit few = none_at_all shown
shown_all First names w n (r ∷ rs) valid fit few =
    let stop_is = stop_reported names w n r rs valid (omega (arith, few)) fit in
    let rest = shown_all First names (step numbered w r.event).0 (n + 1) rs valid fit.1 (omega (arith, few)) in
    let difference : Difference = record { number = n; line = core_text names n r; own = core_text names n (step numbered w r.event).1 } in
    elim (cases_Bool (bytes_eq (core_text names n (step numbered w r.event).1) (core_text names n r))) [
      | inl t ↦ rw (stop_is, t) rest
      | inr f ↦ rw (stop_is, f) (first_shown difference (differing names (step numbered w r.event).0 (n + 1) rs))
    ]
shown_all Each names w n (r ∷ rs) valid fit few =
    let stop_is = stop_reported names w n r rs valid (omega (arith, few)) fit in
    let rest = shown_all Each names (step numbered w r.event).0 (n + 1) rs valid fit.1 (omega (arith, few)) in
    let hunks = hunks_reported names (step numbered w r.event).0 (n + 1) rs valid fit.1 (omega (arith, few)) in
    let difference : Difference = record { number = n; line = core_text names n r; own = core_text names n (step numbered w r.event).1 } in
    elim (cases_Bool (bytes_eq (core_text names n (step numbered w r.event).1) (core_text names n r))) [
      | inl t ↦ rw (stop_is, t) rest
      | inr f ↦ rw (stop_is, f) (ap (λ (text : List ℕ). difference_text Each difference ++ text) hunks)
    ]

-- ---- whole texts

module _ (c : Setup) (text : List ℕ) (records : List Record) (valid : AreValid c.names) (prints : PrintsWithin c.names text records) where
  small : 1 + length records < 2 ^ 64
  small = let few = prints.few in omega (arith, few)

  verdict_is : verdict_at (stop_in c text) ≡ verdict_of (differences c records)
  verdict_is = ap (λ (t : List ℕ). verdict_at (stop_in c t)) prints.prints.lines ∙ verdict_all c.names (booted c) 1 records valid prints.prints.fit small

  shown_is : (shown : Shown) → shown_at shown c.names (stop_in c text) ≡ differences_text shown (shown_of shown (differences c records))
  shown_is shown = ap (λ (t : List ℕ). shown_at shown c.names (stop_in c t)) prints.prints.lines ∙ shown_all shown c.names (booted c) 1 records valid prints.prints.fit small

ok_parts : {A B : Type 0} (a b : A) (x y : B) → ◌≡◌ {A = Result (A × B) TextFault} (Ok (a, x)) (Ok (b, y)) → (a ≡ b) × (x ≡ y)
ok_parts {A} {B} a b x y e =
    let pair : ◌≡◌ {A = A × B} (a, x) (b, y) = cc in
    (ap (λ (p : A × B). p.0) pair, ap (λ (p : A × B). p.1) pair)

-- what was found of a text, with the records that it prints
contrast : (shown : Shown) (c : Setup) (text : List ℕ) (verdict : Verdict) (lines : List ℕ) → AreValid c.names → found_in shown c text ≡ Ok (verdict, lines) → Contrasts shown c text verdict lines
unfolding found_in
contrast shown c text verdict lines valid e =
    let p = bind_parts (records_in c.names text) (λ records. Ok (verdict_at (stop_in c text), shown_at shown c.names (stop_in c text))) (verdict, lines) e in
    let prints = read_prints c.names text p.0 valid p.1 in
    let same = ok_parts verdict (verdict_at (stop_in c text)) lines (shown_at shown c.names (stop_in c text)) (sym p.2) in
    record { records = p.0; prints = prints; judged = same.0 ∙ verdict_is c text p.0 valid prints; report = same.1 ∙ shown_is c text p.0 valid prints shown }

-- the same verdict, or the same fault
abbrev verdict_in : Result Found TextFault → Result Verdict TextFault
verdict_in (Ok found) = Ok found.0
verdict_in (Err fault) = Err fault

alike_in : (shown : Shown) (c : Setup) (text : List ℕ) (read : Result (List Record) TextFault) → records_in c.names text ≡ read → checked c text ≡ verdict_in (found_in shown c text)
unfolding found_in checked
alike_in shown c text (Ok records) is = rw is refl
alike_in shown c text (Err fault) is = rw is refl

abbrev as_verdict : Result Comparison TextFault → Result Verdict TextFault
as_verdict (Ok found) = Ok found.verdict
as_verdict (Err fault) = Err fault

none_shown : (shown : Shown) (ds : List Difference) → Yes ≡ verdict_of ds → differences_text shown (shown_of shown ds) ≡ []
none_shown First [] e = refl
none_shown Each [] e = refl
none_shown shown (d ∷ ds) e = absurd cc

-- of a text that is the machine's own nothing is shown
pub nothing_shown : (shown : Shown) (c : Setup) (text lines : List ℕ) → Contrasts shown c text Yes lines → lines ≡ []
nothing_shown shown c text lines k = k.report ∙ none_shown shown (differences c k.records) k.judged

module _ (shown : Shown) (c : Setup) (text : List ℕ) (valid : AreValid c.names) where
  alike : (result : Result Comparison TextFault) → GivesOrFails found_of result (found_in shown c text) → GivesOrFails (λ v. v) (as_verdict result) (checked c text)
  alike (Ok found) e = alike_in shown c text (records_in c.names text) refl ∙ ap verdict_in e
  alike (Err fault) (inl e) = inl (alike_in shown c text (records_in c.names text) refl ∙ ap verdict_in e)
  alike (Err fault) (inr memory) = inr memory

  pub contrasts : (result : Result Comparison TextFault) → GivesOrFails found_of result (found_in shown c text) → IfOk result (λ found. Contrasts shown c text found.verdict found.lines.items)
  contrasts (Ok found) e = contrast shown c text found.verdict found.lines.items valid e
  contrasts (Err fault) e = tt

  pub judges : (result : Result Comparison TextFault) → GivesOrFails found_of result (found_in shown c text) → IfOk result (λ found. Judges c text found.verdict)
  judges (Ok found) e = is_judged c text valid (Ok found.verdict) (alike (Ok found) e)
  judges (Err fault) e = tt

  pub is_complete : (result : Result Comparison TextFault) → GivesOrFails found_of result (found_in shown c text) → (records : List Record) → PrintsWithin c.names text records → IfErr result IsMemory
  is_complete (Ok found) e records prints = tt
  is_complete (Err fault) e records prints = has_one c text valid (Err fault) (alike (Err fault) e) records prints

  pub is_answers : (result : Result Comparison TextFault) → GivesOrFails found_of result (found_in shown c text) → IsValid c → (events : List Event) → PrintsAnswers c text events → GivesOrFails found_of result (Ok (Yes, []))
  is_answers (Ok found) e valid_config events p =
      let report_yes = is_answered c text valid (Ok found.verdict) (alike (Ok found) e) valid_config events p in
      let yes : found.verdict ≡ Yes = cc in
      let empty : found.lines.items ≡ [] = nothing_shown shown c text found.lines.items (subst (λ (v : Verdict). Contrasts shown c text v found.lines.items) yes (contrast shown c text found.verdict found.lines.items valid e)) in
      sym (ap (λ (v : Verdict). Ok (v, found.lines.items)) yes ∙ ap (λ (text : List ℕ). Ok (Yes, text)) empty)
  is_answers (Err fault) e valid_config events p = elim (is_answered c text valid (Err fault) (alike (Err fault) e) valid_config events p) [ inl ok ↦ absurd cc | inr memory ↦ inr memory ]

  pub is_first_fault : (result : Result Comparison TextFault) → GivesOrFails found_of result (found_in shown c text) → IfErr result (λ fault. FirstFault c.names text fault ⊎ IsMemory fault)
  is_first_fault (Ok found) e = tt
  is_first_fault (Err fault) e = is_reading_fault c text valid (Err fault) (alike (Err fault) e)
