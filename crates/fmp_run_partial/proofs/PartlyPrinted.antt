-- What is found of a text that partly prints records, as its lines stand.
use Rattle.std.proofs.Common.{◌≡◌, ◌⊎◌, ℕ, ◌+◌, ◌<◌, ◌≤◌, ◌^◌, inl, inr, Bool, true, false, not, List, [], ◌∷◌, ◌++◌, length, Option, Some, None, Result, Ok, Err, IfOk, IfErr, refl, sym, ap, subst, ◌∙◌, arith, append_assoc, append-nil}
use Rattle.std.specs.Prelude.{map, All, is_some}
use Rattle.std.specs.List.{list_all}
use Rattle.std.specs.Str.{bytes_eq}
use Rattle.std.proofs.lemmas.Bool.{cases_Bool, false≢true, and_from, and_parts, le-ltb}
use Rattle.std.proofs.lemmas.List.Elements.{All-cons, All-nil}
use Rattle.std.proofs.lemmas.Slice.Eq.{bytes_eq-Decides}
use Rattle.fmp_bytes.specs.Bytes.{pieces_of}
use Rattle.fmp_bytes.proofs.Parsed.{bind_parts}
use Rattle.fmp_calls.specs.Arguments.{EventInBits}
use Rattle.fmp_codes.specs.Records.{AreOn, processor_of}
use Rattle.fmp_codes.specs.declared.records.Answer.{Answer}
use Rattle.fmp_codes.specs.declared.records.Answer.TheVariants as answer
use Rattle.fmp_codes.specs.declared.records.Event.{Event}
use Rattle.fmp_codes.specs.declared.records.Record.{Record}
use Rattle.fmp_trace_check.specs.Checking.{PrintsAnswers}
use Rattle.fmp_trace_check.proofs.FittingAnswers.{answers-fit}
use Rattle.fmp_rules.specs.Arrivals.{State, numbered}
use Rattle.fmp_rules.specs.Boot.{booted}
use Rattle.fmp_rules.specs.Step.{answers, step}
use Rattle.fmp_rules.proofs.Replays.{step_event, length-answers}
use Rattle.fmp_names.specs.Names.{NameLists, AreValid}
use Rattle.fmp_setup.specs.Setup.{Setup}
use Rattle.fmp_setup.specs.Valid.{IsValid}
use Rattle.fmp_text.specs.Events.{IsMemory}
use Rattle.fmp_text.specs.Limits.{most_bytes, most_events}
use Rattle.fmp_text.specs.declared.fault.TextFault.{TextFault}
use Rattle.fmp_trace.specs.Fits.{AllFit}
use Rattle.fmp_trace.specs.Lines.{core_text, lines_from}
use Rattle.fmp_trace.specs.Reading.{GivesOrFails, at_line}
use Rattle.fmp_trace.proofs.ReadTexts.{lines-cons}
use Rattle.fmp_trace.proofs.Unended.{line_is}
use Rattle.fmp_trace_orders.specs.Lines.{is_open, must_of}
use Rattle.fmp_trace_partial.specs.Partial.{bounded_text, kept_text}
use Rattle.fmp_trace_partial.specs.Partly.{BeginsWith, PartlyPrints, PartlyPrintsFrom, PartlyPrintsWithin, FirstFault}
use Rattle.fmp_trace_partial.specs.Saying.{line_said, said_from, said_in}
use Rattle.fmp_trace_partial.specs.declared.codes_kept.AnswerKept.{AnswerKept}
use Rattle.fmp_trace_partial.specs.declared.codes_kept.AnswerKept.TheVariants as of_answer
use Rattle.fmp_trace_partial.specs.declared.kept.Kept.{Kept}
use Rattle.fmp_trace_partial.specs.declared.telling.Said.{Said}
use Rattle.fmp_trace_partial.proofs.GuessedParts.{said_again, said_of, said_whole}
use Rattle.fmp_trace_partial.proofs.ToldCodes.{answer_written}
use Rattle.fmp_trace_partial.proofs.WholeLines.{whole, whole_text}
use Rattle.fmp_trace_partial.proofs.SaidTexts.{AreSaid, SaysFrom, fault_is_first, limited_ok, line_pieces, line_read, printed_parts, prints_read, read_says, said_from-line, says_prints}
use Rattle.fmp_run_partial.specs.Following.{is_plain, judged, state_after, verdict_after, verdict_from}
use Rattle.fmp_run_partial.specs.declared.following.Followed.{Followed}
use Rattle.fmp_run_partial.specs.declared.following.Followed.TheVariants.{Yes, No, Ordered}
use Rattle.fmp_run_partial.specs.Verdicts.{FollowedSays, PartlyPrintsAnswers, PlainlyPrints, PlainlyPrintsFrom}

abbrev entries : List Said → List Record
entries ss = map (λ s. s.entry) ss

abbrev events_of : List Record → List Event
events_of rs = map (λ r. r.event) rs

-- the answers in state w to the events of what is said
abbrev report : State → List Said → List Record
report w ss = answers numbered w (events_of (entries ss))

abbrev are_plain : List Said → Bool
are_plain ss = list_all is_plain ss

-- ---- lines that say nothing of orders

none_of : (bound : Option ℕ) → not (is_some bound) ≡ true → bound ≡ None
none_of None e = refl
none_of (Some m) e = absurd (false≢true e)

no_bound : (s : Said) → is_plain s ≡ true → s.bound ≡ None
no_bound s plain = none_of s.bound (and_parts (not (is_some s.bound)) (must_of s) plain).0

-- such a line has no bound in its text
bare : (names : NameLists) (n : ℕ) (kept : Kept) (bound : Option ℕ) (r : Record) → bound ≡ None → bounded_text names n kept bound r ≡ kept_text names n kept r
unfolding bounded_text
bare names n kept bound r none = rw none (append-nil (kept_text names n kept r))

-- what is written of an answer is written of it again
still_taken : (kept : AnswerKept) (a : Answer) → is_open kept ≡ false → is_open (answer_written kept a) ≡ false
still_taken of_answer.Whole a e = refl
still_taken of_answer.NoValue (answer.Done c value) e = refl
still_taken of_answer.NoValue answer.Wait e = refl
still_taken of_answer.NoValue answer.Spin e = refl
still_taken of_answer.NoValue answer.Gone e = refl
still_taken of_answer.NoValue answer.Idle e = refl
still_taken of_answer.NoValue answer.Held e = refl
still_taken of_answer.NoValue answer.Taken e = refl
still_taken of_answer.NoValue answer.Nothing e = refl
still_taken of_answer.Happened a e = refl
still_taken of_answer.Open a e = absurd (false≢true (sym e))

said_plain : (kept : Kept) (r : Record) → is_open kept.answer ≡ false → is_plain (said_of kept None r) ≡ true
said_plain kept r taken = let still = still_taken kept.answer r.answer taken in rw still refl

-- ---- what is found of what lines say

-- a verdict of no stays
stays : (names : NameLists) (k : ℕ) (w : State) (n : ℕ) (ss : List Said) → are_plain ss ≡ true → verdict_from names (No k) w n ss ≡ No k
stays names k w n [] plain = refl
stays names k w n (s ∷ ss) plain =
    let p = and_parts (is_plain s) (are_plain ss) plain in
    let here = p.0 in
    rw here (stays names k w (n + 1) ss p.1)

-- so does it, where a line said something of orders
stays_ordered : (names : NameLists) (w : State) (n : ℕ) (ss : List Said) → verdict_from names Ordered w n ss ≡ Ordered
stays_ordered names w n [] = refl
stays_ordered names w n (s ∷ ss) = stays_ordered names w (n + 1) ss

-- such a line is found, whatever was found before
ordered_at : (names : NameLists) (v : Followed) (w : State) (n : ℕ) (s : Said) (line : List ℕ) → is_plain s ≡ false → verdict_after names v w n s line ≡ Ordered
ordered_at names Yes w n s line other = rw other refl
ordered_at names (No k) w n s line other = rw other refl
ordered_at names Ordered w n s line other = refl

ordered_from : (names : NameLists) (v : Followed) (w : State) (n : ℕ) (ss : List Said) → are_plain ss ≡ false → verdict_from names v w n ss ≡ Ordered
ordered_from names v w n [] other = absurd (false≢true (sym other))
ordered_from names v w n (s ∷ ss) other =
    let line = bounded_text names n s.kept s.bound s.entry in
    elim (cases_Bool (is_plain s)) [
      | inl t ↦ ordered_from names (verdict_after names v w n s line) (state_after v w s) (n + 1) ss (let here = t in rw here at other)
      | inr f ↦ ap (λ (x : Followed). verdict_from names x (state_after v w s) (n + 1) ss) (ordered_at names v w n s line f) ∙ stays_ordered names (state_after v w s) (n + 1) ss
    ]

-- line k of a text whose first line is line n is the first that does not partly print the record in its place
record IsOtherFrom (names : NameLists) (n : ℕ) (text : List ℕ) (own : List Record) (k : ℕ) : Type 0 where
  before : List Record
  answer : Record
  later : List Record
  lines : List ℕ
  from : List ℕ
  line : List ℕ
  rest : List ℕ
  answers_are : own ≡ before ++ (answer ∷ later)
  parts : text ≡ lines ++ from
  begins : BeginsWith from line rest
  prints : PartlyPrintsFrom names n lines before
  number : k ≡ n + length before
  other : PartlyPrints names k line answer → ⊥

abbrev Outcome : NameLists → ℕ → List ℕ → List Record → Followed → Type 0
Outcome names n text own Yes = PartlyPrintsFrom names n text own
Outcome names n text own (No k) = IsOtherFrom names n text own k
Outcome names n text own Ordered = ⊥

-- one line more in front, which partly prints its record
outcome_after : (names : NameLists) (n : ℕ) (text line rest : List ℕ) (r : Record) (own : List Record) (v : Followed) → BeginsWith text line rest → PartlyPrints names n line r → Outcome names (n + 1) rest own v → Outcome names n text (r ∷ own) v
outcome_after names n text line rest r own Yes begins here more = (line, rest, begins, here, more)
outcome_after names n text line rest r own (No k) begins here more =
    let follows = more.parts in let own_is = more.answers_are in
    record {
      before = r ∷ more.before;
      answer = more.answer;
      later = more.later;
      lines = line ++ 10 ∷ more.lines;
      from = more.from;
      line = more.line;
      rest = more.rest;
      answers_are = ap (λ (rs : List Record). r ∷ rs) own_is;
      parts = begins.parts ∙ ap (λ (t : List ℕ). line ++ 10 ∷ t) follows ∙ sym (append_assoc line (10 ∷ more.lines) more.from);
      begins = more.begins;
      prints = (line, more.lines, record { parts = refl; unended = begins.unended }, here, more.prints);
      number = omega (arith, more.number);
      other = more.other;
    }
outcome_after names n text line rest r own Ordered begins here more = absurd more

outcome_reported : (names : NameLists) (w : State) (n : ℕ) (text : List ℕ) (ss : List Said) → AreValid names → n + length ss < 2 ^ 64 → SaysFrom names n text ss → AllFit names (report w ss) → are_plain ss ≡ true
    → Outcome names n text (report w ss) (verdict_from names Yes w n ss)
outcome_reported names w n text [] valid few says fit plain = says
outcome_reported names w n text (s ∷ ss) valid few (line, rest, begins, here, others) fit plain =
    let p = and_parts (is_plain s) (are_plain ss) plain in
    let plain_here = p.0 in
    let none = no_bound s plain_here in
    let answer : Record = (step numbered w s.entry.event).1 in
    let after : State = (step numbered w s.entry.event).0 in
    let small : n < 2 ^ 64 = omega (arith, few) in
    let said_is = bare names n s.kept s.bound s.entry none in
    elim (cases_Bool (bytes_eq (kept_text names n s.kept answer) (kept_text names n s.kept s.entry))) [
      | inl t ↦
          let same = (bytes_eq-Decides (kept_text names n s.kept answer) (kept_text names n s.kept s.entry)).0 t in
          let printed : PartlyPrints names n line answer = record { kept = s.kept; bound = None; printed = here.printed ∙ said_is ∙ sym same ∙ sym (bare names n s.kept None answer refl); fits = fit.0; is_bound = tt } in
          rw (plain_here, said_is, t) (outcome_after names n text line rest answer (report after ss) (verdict_from names Yes after (n + 1) ss) begins printed
          (outcome_reported names after (n + 1) rest ss valid (omega (arith, few)) others fit.1 p.1))
      | inr f ↦
          let stay = stays names n after (n + 1) ss p.1 in
          rw (plain_here, said_is, f, stay) (record {
            before = [];
            answer = answer;
            later = report after ss;
            lines = [];
            from = text;
            line = line;
            rest = rest;
            answers_are = refl;
            parts = refl;
            begins = begins;
            prints = refl;
            number = omega arith;
            other = λ prints.
                let same : kept_text names n s.kept answer ≡ kept_text names n s.kept s.entry =
                sym (bare names n s.kept s.bound answer none) ∙ printed_parts names n line s answer valid small here prints ∙ said_is in
                false≢true (sym f ∙ (bytes_eq-Decides (kept_text names n s.kept answer) (kept_text names n s.kept s.entry)).1 same);
          })
    ]

-- what is kept of the machine's own answers is judged with yes
own_is_yes : (names : NameLists) (w : State) (n : ℕ) (events : List Event) (ss : List Said) → AreSaid names ss (answers numbered w events) → are_plain ss ≡ true → verdict_from names Yes w n ss ≡ Yes
own_is_yes names w n [] [] same plain = refl
own_is_yes names w n [] (s ∷ ss) same plain = absurd same
own_is_yes names w n (e ∷ events) [] same plain = absurd same
own_is_yes names w n (e ∷ events) (s ∷ ss) ((kept, bound, is), more) plain =
    let p = and_parts (is_plain s) (are_plain ss) plain in
    let plain_here = p.0 in
    let none = no_bound s plain_here in
    let answer : Record = (step numbered w e).1 in
    let event : s.entry.event ≡ e = ap (λ (x : Said). x.entry.event) is ∙ step_event w e in
    let whole : bounded_text names n s.kept s.bound answer ≡ bounded_text names n s.kept s.bound s.entry =
    ap (λ (x : Said). bounded_text names n x.kept x.bound answer) is ∙ said_whole names n kept bound answer ∙ sym (said_again names n kept bound answer) ∙ ap (λ (x : Said). bounded_text names n x.kept x.bound x.entry) (sym is) in
    let printed : kept_text names n s.kept answer ≡ bounded_text names n s.kept s.bound s.entry = sym (bare names n s.kept s.bound answer none) ∙ whole in
    let report_same : kept_text names n s.kept (step numbered w s.entry.event).1 ≡ bounded_text names n s.kept s.bound s.entry =
    ap (λ (x : Event). kept_text names n s.kept (step numbered w x).1) event ∙ printed in
    let test = (bytes_eq-Decides (kept_text names n s.kept (step numbered w s.entry.event).1) (bounded_text names n s.kept s.bound s.entry)).1 report_same in
    let rest : verdict_from names Yes (step numbered w s.entry.event).0 (n + 1) ss ≡ Yes =
    subst (λ (x : Event). verdict_from names Yes (step numbered w x).0 (n + 1) ss ≡ Yes) (sym event) (own_is_yes names (step numbered w e).0 (n + 1) events ss more p.1) in
    rw (plain_here, test) rest

-- ---- texts whose lines say nothing of orders

-- what is read of such a text
record IsReadPlainly (names : NameLists) (n : ℕ) (text : List ℕ) (records : List Record) : Type 0 where
  said : List Said
  read : said_from names n (pieces_of 10 text) ≡ Ok said
  same : AreSaid names said records
  plain : are_plain said ≡ true

plain_line : (names : NameLists) (n : ℕ) (line : List ℕ) (r : Record) → PlainlyPrints names n line r → PartlyPrints names n line r
plain_line names n line r here = record { kept = here.kept; bound = None; printed = here.printed ∙ sym (bare names n here.kept None r refl); fits = here.fits; is_bound = tt }

plain_read : (names : NameLists) (n : ℕ) (text : List ℕ) (rs : List Record) → AreValid names → n + length rs ≤ most_events + 1 → PlainlyPrintsFrom names n text rs → IsReadPlainly names n text rs
unfolding said_from pieces_of plain_line
plain_read names n text [] valid few prints = record { said = []; read = rw prints refl; same = tt; plain = refl }
plain_read names n text (r ∷ rs) valid few (line, rest, begins, here, others) =
    let small : n < 2 ^ 64 = omega (arith, few) in
    let partly = plain_line names n line r here in
    let s = said_of here.kept None r in
    let first : at_line n (line_said names n line) ≡ Ok s = ap (at_line n) (line_read names n line r valid small partly ∙ limited_ok n s (omega (arith, few))) in
    let more = plain_read names (n + 1) rest rs valid (omega (arith, few)) others in
    let read = more.read in
    record {
      said = s ∷ more.said;
      read = ap (said_from names n) (line_pieces text line rest begins) ∙ rw (said_from-line, first, read) refl;
      same = ((here.kept, None, refl), more.same);
      plain = and_from (is_plain s) (are_plain more.said) (said_plain here.kept r here.taken) more.plain;
    }

pub plain_prints : (names : NameLists) (n : ℕ) (text : List ℕ) (rs : List Record) → PlainlyPrintsFrom names n text rs → PartlyPrintsFrom names n text rs
plain_prints names n text [] prints = prints
plain_prints names n text (r ∷ rs) (line, rest, begins, here, others) = (line, rest, begins, plain_line names n line r here, plain_prints names (n + 1) rest rs others)

record IsReadInPlace (names : NameLists) (text : List ℕ) (records : List Record) : Type 0 where
  said : List Said
  read : said_in names text ≡ Ok said
  same : AreSaid names said records
  plain : are_plain said ≡ true

read_in_place : (names : NameLists) (text : List ℕ) (rs : List Record) → AreValid names → PlainlyPrintsFrom names 1 text rs → length rs ≤ most_events → length text ≤ most_bytes → IsReadInPlace names text rs
unfolding said_in
read_in_place names text rs valid prints few short =
    let within = le-ltb most_bytes (length text) short in
    let found = plain_read names 1 text rs valid (omega (arith, few)) prints in
    record { said = found.said; read = rw within found.read; same = found.same; plain = found.plain }

-- a whole trace says nothing of orders
whole_stands : (names : NameLists) (n : ℕ) (text : List ℕ) (rs : List Record) → AreValid names → AllFit names rs → text ≡ lines_from names n rs → PlainlyPrintsFrom names n text rs
unfolding whole
whole_stands names n text [] valid fit lines = lines
whole_stands names n text (r ∷ rs) valid fit lines = (
  core_text names n r,
  lines_from names (n + 1) rs,
  record { parts = lines ∙ lines-cons names n r (lines_from names (n + 1) rs); unended = line_is names valid n r },
  record { kept = whole; printed = sym (whole_text names n r valid fit.0); taken = refl; fits = fit.0 },
  whole_stands names (n + 1) (lines_from names (n + 1) rs) rs valid fit.1 refl,
)

-- ---- whole texts

-- what is said is told of the machine's processors, within the bits of arguments
on_machine : (names : NameLists) (most n : ℕ) (text : List ℕ) (ss : List Said) → names.processors ≡ most → SaysFrom names n text ss → AreOn most (events_of (entries ss))
on_machine names most n text [] same says = All-nil (λ (e : Event). (processor_of e).number ≤ most)
on_machine names most n text (s ∷ ss) same (line, rest, begins, here, others) =
    All-cons (λ (e : Event). (processor_of e).number ≤ most) s.entry.event (events_of (entries ss)) (subst (λ (k : ℕ). (processor_of s.entry.event).number ≤ k) same here.fits.processor) (on_machine names most (n + 1) rest ss same others)

in_bits : (names : NameLists) (n : ℕ) (text : List ℕ) (ss : List Said) → SaysFrom names n text ss → All EventInBits (events_of (entries ss))
in_bits names n text [] says = All-nil EventInBits
in_bits names n text (s ∷ ss) (line, rest, begins, here, others) = All-cons EventInBits s.entry.event (events_of (entries ss)) here.fits.event (in_bits names (n + 1) rest ss others)

length-entries : (ss : List Said) → length (entries ss) ≡ length ss
length-entries [] = refl
length-entries (s ∷ ss) = let others = length-entries ss in omega (arith, others)

module _ (c : Setup) (text : List ℕ) (ss : List Said) (read : said_in c.names text ≡ Ok ss) (plain : are_plain ss ≡ true) (prints : PartlyPrintsWithin c.names text (entries ss)) where
  outcome_says : (v : Followed) → Outcome c.names 1 text (report (booted c) ss) v → FollowedSays c text v
  outcome_says Yes known = (record { said = ss; read = read; are_plain = plain }, record { records = entries ss; prints = prints; compares = known })
  outcome_says (No k) known = (
    record { said = ss; read = read; are_plain = plain },
    record {
      records = entries ss;
      prints = prints;
      compares = record {
        before = known.before;
        answer = known.answer;
        later = known.later;
        lines = known.lines;
        from = known.from;
        line = known.line;
        rest = known.rest;
        answers = known.answers_are;
        parts = known.parts;
        begins = known.begins;
        prints = known.prints;
        number = known.number;
        other = known.other;
      };
    },
  )
  outcome_says Ordered known = absurd known

module _ (c : Setup) (text : List ℕ) (v : Followed) (valid : IsValid c) (names_valid : AreValid c.names) where
  said_says : (ss : List Said) → said_in c.names text ≡ Ok ss → verdict_from c.names Yes (booted c) 1 ss ≡ v → FollowedSays c text v
  said_says ss read same =
      let says = read_says c.names text ss names_valid read in
      let few = says.few in
      let long = length-entries ss in
      let fit = answers-fit c (events_of (entries ss)) valid (on_machine c.names c.processors 1 text ss valid.same_processors says.says) (in_bits c.names 1 text ss says.says) in
      elim (cases_Bool (are_plain ss)) [
        | inl t ↦
            let prints : PartlyPrintsWithin c.names text (entries ss) = record { prints = says_prints c.names 1 text ss says.says; few = omega (arith, few, long); short = says.short } in
            outcome_says c text ss read t prints v (subst (Outcome c.names 1 text (report (booted c) ss)) same (outcome_reported c.names (booted c) 1 text ss names_valid (omega (arith, few)) says.says fit t))
        | inr f ↦ subst (FollowedSays c text) (sym (ordered_from c.names Yes (booted c) 1 ss f) ∙ same) (record { said = ss; read = read; are_plain = f })
      ]

  verdict_judges : judged c text ≡ Ok v → FollowedSays c text v
  unfolding judged
  verdict_judges e =
      let p = bind_parts (said_in c.names text) (λ ss. Ok (verdict_from c.names Yes (booted c) 1 ss)) v e in
      let same : verdict_from c.names Yes (booted c) 1 p.0 ≡ v = let is = p.2 in cc in
      said_says p.0 p.1 same

-- a fault of judging is one of reading
fault_parts : (c : Setup) (text : List ℕ) (fault : TextFault) (read : Result (List Said) TextFault) → AreValid c.names → said_in c.names text ≡ read → judged c text ≡ Err fault → FirstFault c.names text fault
unfolding judged
fault_parts c text fault (Err first) valid is_read e =
    let same : first ≡ fault = let e2 = rw is_read at e in cc in
    fault_is_first c.names text fault valid (is_read ∙ ap (λ (f : TextFault). Err f) same)
fault_parts c text fault (Ok ss) valid is_read e =
    let e2 : ◌≡◌ {A = Result Followed TextFault} (Ok (verdict_from c.names Yes (booted c) 1 ss)) (Err fault) = rw is_read at e in
    absurd cc

module _ (c : Setup) (text : List ℕ) (valid : IsValid c) (names_valid : AreValid c.names) where
  -- a text that partly prints records has a verdict
  has_verdict : (records : List Record) → PartlyPrintsWithin c.names text records → (v : Followed) × (judged c text ≡ Ok v)
  unfolding judged
  has_verdict records prints =
      let found = prints_read c.names text records names_valid prints in
      let read = found.read in
      (verdict_from c.names Yes (booted c) 1 found.said, rw read refl)

  own_verdict : (events : List Event) → PartlyPrintsAnswers c text events → judged c text ≡ Ok Yes
  unfolding judged
  own_verdict events own =
      let found = read_in_place c.names text (answers numbered (booted c) events) names_valid own.prints own.few own.short in
      let read = found.read in
      let yes = own_is_yes c.names (booted c) 1 events found.said found.same found.plain in
      rw (read, yes) refl

  pub is_judged : (result : Result Followed TextFault) → GivesOrFails (λ v. v) result (judged c text) → IfOk result (FollowedSays c text)
  is_judged (Ok v) e = verdict_judges c text v valid names_valid e
  is_judged (Err fault) e = tt

  pub has_one : (result : Result Followed TextFault) → GivesOrFails (λ v. v) result (judged c text) → (records : List Record) → PartlyPrintsWithin c.names text records → IfErr result IsMemory
  has_one (Ok v) e records prints = tt
  has_one (Err fault) (inl e) records prints = let ok = (has_verdict records prints).1 in absurd cc
  has_one (Err fault) (inr memory) records prints = memory

  pub is_answered : (result : Result Followed TextFault) → GivesOrFails (λ v. v) result (judged c text) → (events : List Event) → PartlyPrintsAnswers c text events → GivesOrFails (λ v. v) result (Ok Yes)
  is_answered (Ok v) e events own = sym (own_verdict events own) ∙ e
  is_answered (Err fault) (inl e) events own = let ok = own_verdict events own in absurd cc
  is_answered (Err fault) (inr memory) events own = inr memory

  -- the machine's own trace partly prints its answers
  pub whole_answers : (events : List Event) → PrintsAnswers c text events → PartlyPrintsAnswers c text events
  whole_answers events own =
      let own_records : List Record = answers numbered (booted c) events in
      let few : length own_records ≤ most_events = rw (length-answers (booted c) events) own.few in
      let fit = answers-fit c events valid own.on own.in_bits in
      record {
        on = own.on;
        in_bits = own.in_bits;
        prints = whole_stands c.names 1 text own_records names_valid fit own.prints;
        few = few;
        short = own.short;
      }

  pub is_own : (result : Result Followed TextFault) → GivesOrFails (λ v. v) result (judged c text) → (events : List Event) → PrintsAnswers c text events → GivesOrFails (λ v. v) result (Ok Yes)
  is_own result e events own = is_answered result e events (whole_answers events own)

  pub is_first_fault : (result : Result Followed TextFault) → GivesOrFails (λ v. v) result (judged c text) → IfErr result (λ fault. FirstFault c.names text fault ⊎ IsMemory fault)
  is_first_fault (Ok v) e = tt
  is_first_fault (Err fault) (inl e) = inl (fault_parts c text fault (said_in c.names text) names_valid refl (sym (sym e)))
  is_first_fault (Err fault) (inr memory) = inr memory
