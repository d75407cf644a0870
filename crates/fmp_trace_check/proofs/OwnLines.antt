-- Going over the lines of a text as long as they are the machine's own, as the loop does.
use Rattle.std.proofs.Common.{◌≡◌, ℕ, ◌+◌, ◌<◌, ◌≤◌, ◌^◌, true, false, cond, List, [], ◌∷◌, length, Option, Some, None, Result, Ok, Err, refl, sym, ap, subst, ◌∙◌, arith}
use Rattle.std.proofs.lemmas.Bool.{false≢true}
use Rattle.std.proofs.lemmas.List.Elements.{All-cons, All-nil}
use Rattle.std.proofs.lemmas.Slice.Eq.{bytes_eq-Decides}
use Rattle.fmp_bytes.specs.Bytes.{cut_at, pieces_of}
use Rattle.fmp_bytes.proofs.Cutting.{pieces_of-cut}
use Rattle.fmp_bytes.proofs.Parsed.{bind_parts}
use Rattle.fmp_codes.specs.Records.{processor_of}
use Rattle.fmp_codes.specs.declared.records.Event.{Event}
use Rattle.fmp_codes.specs.declared.records.Record.{Record}
use Rattle.fmp_calls.specs.Arguments.{EventInBits}
use Rattle.fmp_rules.specs.Arrivals.{State, numbered}
use Rattle.fmp_setup.specs.Setup.{Setup}
use Rattle.fmp_rules.specs.Step.{step}
use Rattle.fmp_rules.proofs.Replays.{step_event}
use Rattle.fmp_setup.specs.Valid.{IsValid}
use Rattle.fmp_law_safety.specs.Safe.{Safe}
use Rattle.fmp_law_safety.specs.Counts.{counts_of, HasCounts}
use Rattle.fmp_law_safety.proofs.Stepping.{safe_replay, numbered_tops}
use Rattle.fmp_law_safety.proofs.Listed.{numbered_lists}
use Rattle.fmp_law_safety.proofs.Telling.{step_names}
use Rattle.fmp_text.specs.Limits.{most_events}
use Rattle.fmp_text.specs.declared.fault.TextFault.{TextFault}
use Rattle.fmp_text.specs.declared.fault.TextKind.{TextKind}
use Rattle.fmp_names.specs.Names.{NameLists, AreValid}
use Rattle.fmp_trace.specs.Fits.{FitsNames}
use Rattle.fmp_trace.specs.Heads.{event_of}
use Rattle.fmp_trace.specs.Lines.{core_text}
use Rattle.fmp_trace.specs.Prints.{PrintsLine}
use Rattle.fmp_trace.specs.Reading.{at_line, line_record, records_from}
use Rattle.fmp_trace.proofs.Headed.{event_of-fits}
use Rattle.fmp_trace.proofs.Numbered.{first_piece, only_piece, records_from-line, with_prefix}
use Rattle.fmp_trace.proofs.ReadTexts.{line_read, limited_ok, line_reported, LineReported}
use Rattle.fmp_trace_check.specs.Walking.{following, prints_answer, stopped, stop_from}
use Rattle.fmp_trace_check.proofs.FittingAnswers.{record_fits}

-- ---- where the lines of a text stop being the machine's own

-- the first line of a text with a line feed
pub stop_from-line : (names : NameLists) (w : State) (n : ℕ) (line rest : List ℕ) → stop_from names w n (line ∷ pieces_of 10 rest)
    ≡ cond (prints_answer names w n line (event_of names line)) (stop_from names (following w (event_of names line)) (n + 1) (pieces_of 10 rest)) (Some (stopped names w n line (event_of names line) (pieces_of 10 rest)))
unfolding stop_from
stop_from-line names w n line rest = rw (pieces_of-cut 10 rest) refl

module _ (names : NameLists) (w : State) (n : ℕ) (text : List ℕ) where
  pub goes_after : (line rest : List ℕ) → (cut_at 10 text).0 ≡ line → (cut_at 10 text).1 ≡ Some rest → prints_answer names w n line (event_of names line) ≡ true
      → stop_from names w n (pieces_of 10 text) ≡ stop_from names (following w (event_of names line)) (n + 1) (pieces_of 10 rest)
  goes_after line rest is_line cut own = rw (first_piece text line rest is_line cut, stop_from-line, own) refl

  pub stops_here : (line rest : List ℕ) → (cut_at 10 text).0 ≡ line → (cut_at 10 text).1 ≡ Some rest → prints_answer names w n line (event_of names line) ≡ false
      → stop_from names w n (pieces_of 10 text) ≡ Some (stopped names w n line (event_of names line) (pieces_of 10 rest))
  stops_here line rest is_line cut other = rw (first_piece text line rest is_line cut, stop_from-line, other) refl

  pub stops_nowhere : (cut_at 10 text).1 ≡ None → stop_from names w n (pieces_of 10 text) ≡ None
  unfolding stop_from
  stops_nowhere none = rw (only_piece text none) refl

-- the state is one that the machine can be in
pub record Goes (c : Setup) (w : State) : Type 0 where
  pub safe : Safe numbered w
  pub counts : HasCounts (counts_of c) w

-- ---- a line of its own has no fault

module _ (c : Setup) (valid : IsValid c) (names_valid : AreValid c.names) (w : State) (n : ℕ) (few : n ≤ most_events) (goes : Goes c w) where
  -- an event that a line tells leads to a state that goes, and its record fits the names
  goes_on : (e : Event) → (processor_of e).number ≤ c.names.processors → EventInBits e → Goes c (step numbered w e).0 × FitsNames c.names (step numbered w e).1
  goes_on e on in_bits =
      let here : (processor_of e).number ≤ c.processors = rw (sym valid.same_processors) on in
      let report = step_names (counts_of c) w e goes.safe goes.counts here in_bits in
      let counts = goes.counts in
      let event_is = step_event w e in (
        record {
          safe = safe_replay numbered numbered_tops numbered_lists w (e ∷ []) goes.safe (All-cons (λ (x : Event). (processor_of x).number ≤ length w.processors) e [] (rw counts.processors here) (All-nil (λ (x : Event). (processor_of x).number ≤ length w.processors)));
          counts = report.0;
        },
        record_fits c valid (step numbered w e).1 report.1 (subst EventInBits (sym event_is) in_bits),
      )

  -- a line of its own leads to a state that goes, and is read
  abbrev Own : List ℕ → Option Event → Type 0
  Own line report = Goes c (following w report) × ((r : Record) × (at_line n (line_record c.names n line) ≡ Ok r))

  own_line : (line : List ℕ) (report : Option Event) → event_of c.names line ≡ report → prints_answer c.names w n line report ≡ true → Own line report
  own_line line None is_reported own = absurd (false≢true own)
  own_line line (Some e) is_reported own =
      let r : Record = (step numbered w e).1 in
      let same : core_text c.names n r ≡ line = (bytes_eq-Decides (core_text c.names n r) line).0 own in
      let fits = event_of-fits c.names line e names_valid is_reported in
      let on = goes_on e fits.0 fits.1 in
      let small : n < 2 ^ 64 = omega (arith, few) in
      (on.0, (r, ap (at_line n) (line_read c.names n line r names_valid small (sym same, on.1) ∙ limited_ok n r few)))

  pub is_own : (line : List ℕ) → prints_answer c.names w n line (event_of c.names line) ≡ true → Own line (event_of c.names line)
  is_own line test = own_line line (event_of c.names line) refl test

-- ---- what is read from a line on is what is read of the whole text

-- the records before line n of a text were read, which goes on with this rest
abbrev pub ReadTo : NameLists → List ℕ → ℕ → List ℕ → Type 0
ReadTo names text n rest = (before : List Record) × (with_prefix before (records_from names n (pieces_of 10 rest)) ≡ records_from names 1 (pieces_of 10 text))

pub reads_begin : (names : NameLists) (text : List ℕ) (read : Result (List Record) TextFault) → records_from names 1 (pieces_of 10 text) ≡ read → ReadTo names text 1 text
reads_begin names text (Ok records) is = ([], rw is refl)
reads_begin names text (Err fault) is = ([], rw is refl)

at_line_parts : (n : ℕ) (read : Result Record TextKind) (r : Record) → at_line n read ≡ Ok r → read ≡ Ok r
at_line_parts n (Ok x) r e = let same : x ≡ r = cc in ap (λ (y : Record). Ok y) same
at_line_parts n (Err kind) r e = absurd cc

-- a line that is read stands within the limit of events
pub is_within : (names : NameLists) (valid : AreValid names) (n : ℕ) (small : n < 2 ^ 64) (text line rest : List ℕ) (records : List Record) → (cut_at 10 text).0 ≡ line → (cut_at 10 text).1 ≡ Some rest
    → records_from names n (pieces_of 10 text) ≡ Ok records → n ≤ most_events
is_within names valid n small text line rest records is_line cut read =
    let pieces = first_piece text line rest is_line cut in
    let read_so : records_from names n (line ∷ pieces_of 10 rest) ≡ Ok records = ap (records_from names n) (sym pieces) ∙ read in
    let p = bind_parts (at_line n (line_record names n line)) _ records (sym (records_from-line names n line rest) ∙ read_so) in
    let report : PrintsLine names n line p.0 × (n ≤ most_events) = subst (LineReported names n line) (at_line_parts n (line_record names n line) p.0 p.1) (line_reported names n line valid small) in
    report.1
