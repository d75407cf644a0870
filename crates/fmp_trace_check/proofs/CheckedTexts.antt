-- The verdict on a text that prints records.
use Rattle.std.proofs.Common.{◌≡◌, ◌≢◌, ◌⊎◌, ℕ, zero, suc, ◌+◌, ◌-◌, ◌<◌, ◌≤◌, ◌^◌, cond, inl, inr, List, [], ◌∷◌, ◌++◌, length, take, slice_get, Option, Some, Result, Ok, Err, IfOk, IfErr, refl, sym, ap, subst, ◌∙◌, arith}
use Rattle.std.specs.Prelude.{map, codes}
use Rattle.std.specs.Str.{bytes_eq}
use Rattle.std.proofs.lemmas.Bool.{cases_Bool, false≢true}
use Rattle.std.proofs.lemmas.Slice.Eq.{bytes_eq-Decides}
use Rattle.fmp_codes.specs.declared.records.Event.{Event}
use Rattle.fmp_codes.specs.declared.records.Record.{Record}
use Rattle.fmp_bytes.specs.Bytes.{pieces_of}
use Rattle.fmp_bytes.proofs.Parsed.{bind_parts}
use Rattle.fmp_rules.specs.Boot.{booted}
use Rattle.fmp_rules.specs.Arrivals.{State, numbered}
use Rattle.fmp_setup.specs.Setup.{Setup}
use Rattle.fmp_rules.specs.Step.{step, answers}
use Rattle.fmp_rules.proofs.Replays.{length-answers}
use Rattle.fmp_setup.specs.Valid.{IsValid}
use Rattle.fmp_text.specs.Limits.{most_events}
use Rattle.fmp_text.specs.declared.fault.TextFault.{TextFault}
use Rattle.fmp_text.specs.Events.{IsMemory}
use Rattle.fmp_trace.specs.Reading.{GivesOrFails}
use Rattle.fmp_names.specs.Names.{NameLists, AreValid}
use Rattle.fmp_trace_check.specs.declared.checking.Verdict.{Verdict}
use Rattle.fmp_trace_check.specs.declared.checking.Verdict.TheVariants.{Yes, No}
use Rattle.fmp_trace_check.specs.Checking.{own_text, cores_from, own_lines, Compares, Judges, PrintsAnswers, verdict_at, checked}
use Rattle.fmp_trace_check.specs.Walking.{seen, stop_from, stop_in}
use Rattle.fmp_trace.specs.Fits.{AllFit}
use Rattle.fmp_trace.specs.Heads.{event_of}
use Rattle.fmp_trace.specs.Lines.{core_text, line_text, lines_from}
use Rattle.fmp_trace.specs.Prints.{PrintsWithin, FirstFault}
use Rattle.fmp_trace.specs.Reading.{records_in}
use Rattle.fmp_trace_check.proofs.FittingAnswers.{answers_events, answers-fit}
use Rattle.fmp_trace_check.proofs.OwnLines.{stop_from-line}
use Rattle.fmp_trace.proofs.GuessedLines.{line_guessed}
use Rattle.fmp_trace.proofs.Headed.{guess-event}
use Rattle.fmp_trace.proofs.ReadTexts.{lines_pieces, read_prints, prints_read, fault_is_first}

-- the answers in state w to the events of these records
abbrev pub report : State → List Record → List Record
report w rs = answers numbered w (map (λ r. r.event) rs)

-- the first difference among lines from line n on is at line k
pub record DiffersFrom (n k : ℕ) (lines others : List (List ℕ)) : Type 0 where
  pub offset : ℕ
  pub line : k ≡ n + offset
  pub within : offset < length others
  pub before : take offset lines ≡ take offset others
  pub here : slice_get lines offset ≢ slice_get others offset

abbrev pub VerdictReported : NameLists → State → ℕ → List Record → Verdict → Type 0
VerdictReported names w n rs Yes = lines_from names n rs ≡ lines_from names n (report w rs)
VerdictReported names w n rs (No k) = DiffersFrom n k (pieces_of 10 (lines_from names n rs)) (cores_from names n (report w rs))

module _ (names : NameLists) (w : State) (n : ℕ) (r : Record) (rs : List Record) where
  next : State
  next = (step numbered w r.event).0

  answer : Record
  answer = (step numbered w r.event).1

  -- a line that prints the answer
  same_reported : (verdict : Verdict) → pieces_of 10 (lines_from names n (r ∷ rs)) ≡ core_text names n r ∷ pieces_of 10 (lines_from names (n + 1) rs) → core_text names n answer ≡ core_text names n r → VerdictReported names next (n + 1) rs verdict → VerdictReported names w n (r ∷ rs) verdict
  unfolding next answer line_text
  same_reported Yes pieces same rest =
      ap (λ (core : List ℕ). (core ++ codes "\n") ++ lines_from names (n + 1) rs) (sym same) ∙ ap (λ (others : List ℕ). line_text names n answer ++ others) rest
  same_reported (No k) pieces same rest =
      let line = rest.line in let within = rest.within in let before = rest.before in let here = rest.here in
      record {
        offset = suc rest.offset;
        line = omega (arith, line);
        within = omega (arith, within);
        before = ap (take (suc rest.offset)) pieces ∙ ap (λ (core : List ℕ). core ∷ take rest.offset (pieces_of 10 (lines_from names (n + 1) rs))) (sym same) ∙ ap (λ (others : List (List ℕ)). core_text names n answer ∷ others) before;
        here = λ e. here (ap (λ (lines : List (List ℕ)). slice_get lines (suc rest.offset)) (sym pieces) ∙ e);
      }

  other_reported : pieces_of 10 (lines_from names n (r ∷ rs)) ≡ core_text names n r ∷ pieces_of 10 (lines_from names (n + 1) rs) → core_text names n answer ≢ core_text names n r → VerdictReported names w n (r ∷ rs) (No n)
  unfolding answer
  other_reported pieces differs =
      record {
        offset = 0;
        line = omega arith;
        within = omega arith;
        before = refl;
        here = λ e. differs (let cores : ◌≡◌ {A = Option (List ℕ)} (Some (core_text names n r)) (Some (core_text names n answer)) = ap (λ (lines : List (List ℕ)). slice_get lines 0) (sym pieces) ∙ e in cc);
      }

-- a line that prints a record tells its event
pub stop_reported : (names : NameLists) (w : State) (n : ℕ) (r : Record) (rs : List Record) → AreValid names → n < 2 ^ 64 → AllFit names (r ∷ rs) → stop_from names w n (pieces_of 10 (lines_from names n (r ∷ rs)))
    ≡ cond (bytes_eq (core_text names n (step numbered w r.event).1) (core_text names n r)) (stop_from names (step numbered w r.event).0 (n + 1) (pieces_of 10 (lines_from names (n + 1) rs)))
    (Some (seen n (core_text names n r) (core_text names n (step numbered w r.event).1) (step numbered w r.event).0 (pieces_of 10 (lines_from names (n + 1) rs))))
stop_reported names w n r rs valid small fit =
    let event : event_of names (core_text names n r) ≡ Some r.event = guess-event names (core_text names n r) r (line_guessed names r valid fit.0 n small) in
    rw (lines_pieces names n r rs valid, stop_from-line, event) refl

verdict_reported : (names : NameLists) (w : State) (n : ℕ) (rs : List Record) → AreValid names → AllFit names rs → n + length rs < 2 ^ 64 → VerdictReported names w n rs (verdict_at (stop_from names w n (pieces_of 10 (lines_from names n rs))))
unfolding stop_from pieces_of next answer
verdict_reported names w n [] valid fit few = refl
verdict_reported names w n (r ∷ rs) valid fit few =
    let small : n < 2 ^ 64 = omega (arith, few) in
    let pieces = lines_pieces names n r rs valid in
    let stop_is = stop_reported names w n r rs valid small fit in
    let rest = verdict_reported names (step numbered w r.event).0 (n + 1) rs valid fit.1 (omega (arith, few)) in
    elim (cases_Bool (bytes_eq (core_text names n (answer names w n r rs)) (core_text names n r))) [
      | inl t ↦ rw (stop_is, t) (same_reported names w n r rs _ pieces ((bytes_eq-Decides _ _).0 t) rest)
      | inr f ↦ rw (stop_is, f) (other_reported names w n r rs pieces (λ e. false≢true (sym f ∙ (bytes_eq-Decides _ _).1 e)))
    ]

-- ---- whole texts

-- the lines of a text that prints records
pub cores_pieces : (names : NameLists) (n : ℕ) (rs : List Record) → AreValid names → pieces_of 10 (lines_from names n rs) ≡ cores_from names n rs ++ [] ∷ []
unfolding pieces_of
cores_pieces names n [] valid = refl
cores_pieces names n (r ∷ rs) valid = lines_pieces names n r rs valid ∙ ap (λ (lines : List (List ℕ)). core_text names n r ∷ lines) (cores_pieces names (n + 1) rs valid)

compares : (c : Setup) (text : List ℕ) (records : List Record) (verdict : Verdict) → text ≡ lines_from c.names 1 records → VerdictReported c.names (booted c) 1 records verdict → Compares c text records verdict
compares c text records Yes lines known = lines ∙ known
compares c text records (No k) lines known =
    let offset : k - 1 ≡ known.offset = let line = known.line in omega (arith, line) in
    let line = known.line in let within = known.within in
    record {
      least = omega (arith, line);
      most = omega (arith, line, within);
      before = rw (offset, lines) known.before;
      here = rw (offset, lines) known.here;
    }

-- the verdict on a text that prints these records
text_verdict : (c : Setup) (text : List ℕ) (records : List Record) → AreValid c.names → PrintsWithin c.names text records → VerdictReported c.names (booted c) 1 records (verdict_at (stop_in c text))
text_verdict c text records valid prints =
    let few = prints.few in
    subst (λ (t : List ℕ). VerdictReported c.names (booted c) 1 records (verdict_at (stop_in c t))) (sym prints.prints.lines) (verdict_reported c.names (booted c) 1 records valid prints.prints.fit (omega (arith, few)))

verdict_judges : (c : Setup) (text : List ℕ) (verdict : Verdict) → AreValid c.names → checked c text ≡ Ok verdict → Judges c text verdict
unfolding checked
verdict_judges c text verdict valid e =
    let p = bind_parts (records_in c.names text) (λ records. Ok (verdict_at (stop_in c text))) verdict e in
    let same : verdict_at (stop_in c text) ≡ verdict = let is = p.2 in cc in
    let prints = read_prints c.names text p.0 valid p.1 in
    record { records = p.0; prints = prints; compares = compares c text p.0 verdict prints.prints.lines (subst (VerdictReported c.names (booted c) 1 p.0) same (text_verdict c text p.0 valid prints)) }

-- a text that prints records has a verdict
has_verdict : (c : Setup) (text : List ℕ) (records : List Record) → AreValid c.names → PrintsWithin c.names text records → checked c text ≡ Ok (verdict_at (stop_in c text))
unfolding checked
has_verdict c text records valid prints = let read = prints_read c.names text records valid prints in rw read refl

-- a fault of checking is one of reading
fault_parts : (c : Setup) (text : List ℕ) (fault : TextFault) (read : Result (List Record) TextFault) → AreValid c.names → records_in c.names text ≡ read → checked c text ≡ Err fault → FirstFault c.names text fault
unfolding checked
fault_parts c text fault (Err first) valid is_read e =
    let same : first ≡ fault = let e2 = rw is_read at e in cc in
    fault_is_first c.names text fault valid (is_read ∙ ap (λ (f : TextFault). Err f) same)
fault_parts c text fault (Ok records) valid is_read e =
    let e2 : ◌≡◌ {A = Result Verdict TextFault} (Ok (verdict_at (stop_in c text))) (Err fault) = rw is_read at e in
    absurd cc

prefix_get : (xs ys : List (List ℕ)) (i : ℕ) → i < length xs → slice_get (xs ++ ys) i ≡ slice_get xs i
prefix_get [] ys i lt = absurd (omega (arith, lt))
prefix_get (x ∷ xs) ys zero lt = refl
prefix_get (x ∷ xs) ys (suc i) lt = prefix_get xs ys i (omega (arith, lt))

-- the lines of its own answers are the text's
own_is_yes : (c : Setup) (text : List ℕ) (records : List Record) (verdict : Verdict) → AreValid c.names → text ≡ own_text c records → Compares c text records verdict → verdict ≡ Yes
own_is_yes c text records Yes valid own known = refl
own_is_yes c text records (No k) valid own known =
    let lines : pieces_of 10 text ≡ own_lines c records ++ [] ∷ [] = ap (pieces_of 10) own ∙ cores_pieces c.names 1 (report (booted c) records) valid in
    let least = known.least in let most = known.most in
    absurd (known.here (ap (λ (ls : List (List ℕ)). slice_get ls (k - 1)) lines ∙ prefix_get (own_lines c records) ([] ∷ []) (k - 1) (omega (arith, least, most))))

module _ (c : Setup) (text : List ℕ) (valid : AreValid c.names) where
  pub is_judged : (result : Result Verdict TextFault) → GivesOrFails (λ v. v) result (checked c text) → IfOk result (Judges c text)
  is_judged (Ok verdict) e = verdict_judges c text verdict valid e
  is_judged (Err fault) e = tt

  pub has_one : (result : Result Verdict TextFault) → GivesOrFails (λ v. v) result (checked c text) → (records : List Record) → PrintsWithin c.names text records → IfErr result IsMemory
  has_one (Ok verdict) e records prints = tt
  has_one (Err fault) (inl e) records prints = let ok = has_verdict c text records valid prints in absurd cc
  has_one (Err fault) (inr memory) records prints = memory

  pub is_own : (result : Result Verdict TextFault) → GivesOrFails (λ v. v) result (checked c text) → (records : List Record) → PrintsWithin c.names text records → text ≡ own_text c records → GivesOrFails (λ v. v) result (Ok Yes)
  is_own (Ok verdict) e records prints own =
      let j = verdict_judges c text verdict valid e in
      let read = prints_read c.names text records valid prints in
      let read_too = prints_read c.names text j.records valid j.prints in
      let same : j.records ≡ records = cc in
      ap (λ (v : Verdict). Ok v) (sym (own_is_yes c text j.records verdict valid (own ∙ ap (own_text c) (sym same)) j.compares))
  is_own (Err fault) (inl e) records prints own = let ok = has_verdict c text records valid prints in absurd cc
  is_own (Err fault) (inr memory) records prints own = inr memory

  pub is_reading_fault : (result : Result Verdict TextFault) → GivesOrFails (λ v. v) result (checked c text) → IfErr result (λ fault. FirstFault c.names text fault ⊎ IsMemory fault)
  is_reading_fault (Ok verdict) e = tt
  is_reading_fault (Err fault) (inl e) = inl (fault_parts c text fault (records_in c.names text) valid refl (sym (sym e)))
  is_reading_fault (Err fault) (inr memory) = inr memory

  -- what the machine answers is its own text
  pub is_answered : (result : Result Verdict TextFault) → GivesOrFails (λ v. v) result (checked c text) → IsValid c → (events : List Event) → PrintsAnswers c text events → GivesOrFails (λ v. v) result (Ok Yes)
  is_answered result e valid_config events p =
      let records : List Record = answers numbered (booted c) events in
      let few : length records ≤ most_events = rw (length-answers (booted c) events) p.few in
      let fit : AllFit c.names records = answers-fit c events valid_config p.on p.in_bits in
      let prints : PrintsWithin c.names text records = record { prints = record { lines = p.prints; fit = fit }; few = few; short = p.short } in
      let own : text ≡ own_text c records = p.prints ∙ ap (λ (es : List Event). lines_from c.names 1 (answers numbered (booted c) es)) (sym (answers_events (booted c) events)) in
      is_own result e records prints own
