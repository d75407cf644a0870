-- A text is read exactly where it partly prints records that fit, and else its first fault is told.
use Rattle.std.proofs.Common.{◌≡◌, ◌≢◌, ℕ, ◌+◌, ◌<◌, ◌≤◌, ◌^◌, ◌⊎◌, Bool, true, false, not, ◌&&◌, cond, eqb, ltb, inl, inr, List, [], ◌∷◌, ◌++◌, length, Option, Some, None, Result, Ok, Err, refl, sym, ap, subst, ◌∙◌, arith, append_assoc}
use Rattle.std.specs.Prelude.{codes, map}
use Rattle.std.specs.Option.{option_map_or}
use Rattle.std.specs.List.{list_all, join_with_byte}
use Rattle.std.specs.Str.{bytes_eq}
use Rattle.std.proofs.lemmas.Bool.{cases_Bool, eqb-true, eqb-false, ltb-true, ltb-false, le-ltb, and_parts, and_from, false≢true}
use Rattle.std.proofs.lemmas.Slice.Eq.{bytes_eq-Decides}
use Rattle.std.proofs.lemmas.List.{nil_from_length}
use Rattle.fmp_codes.specs.declared.numbers.Proc.{Proc}
use Rattle.fmp_codes.specs.declared.records.Record.{Record}
use Rattle.fmp_bytes.specs.declared.classes.Class.TheVariants.{Printed}
use Rattle.fmp_bytes.specs.Bytes.{is_of, following, cut_at, pieces_of}
use Rattle.fmp_bytes.specs.Numerals.{number_of}
use Rattle.fmp_bytes.proofs.Cutting.{pieces_of-cut, cut_at-append, join-pieces_of, some-pieces_of, apart-pieces_of}
use Rattle.fmp_bytes.proofs.Parsed.{and_then_parts}
use Rattle.fmp_bytes.specs.Results.{◌>>=◌}
use Rattle.fmp_text.specs.Limits.{most_bytes, most_events}
use Rattle.fmp_text.specs.Lines.{processor_numbered}
use Rattle.fmp_text.specs.declared.fault.TextFault.{TextFault}
use Rattle.fmp_text.specs.declared.fault.TextKind.{TextKind}
use Rattle.fmp_text.specs.declared.fault.TextKind.TheVariants.{BadByte, BadWord, UnknownName, WrongArguments, NumberOutOfRange, CutShort, TooMany, Memory}
use Rattle.fmp_names.specs.Names.{NameLists, AreValid}
use Rattle.fmp_trace.specs.Fits.{FitsNames}
use Rattle.fmp_trace.specs.Guess.{guess_runner}
use Rattle.fmp_trace.specs.GuessParts.{runner_in}
use Rattle.fmp_trace.specs.Prints.{IsUnended}
use Rattle.fmp_trace.specs.Reading.{at_line}
use Rattle.fmp_trace.proofs.FittingLines.{guess_event-fits}
use Rattle.fmp_trace.proofs.FittingParts.{processor_numbered-fits, runner_in-fits}
use Rattle.fmp_trace.proofs.Numbered.{first_piece}
use Rattle.fmp_trace.proofs.ReadTexts.{too_long}
use Rattle.fmp_trace_partial.specs.Partial.{bounded_text, IsBound}
use Rattle.fmp_trace_partial.specs.Partly.{PartlyPrints, BeginsWith, PartlyPrintsFrom, PartlyPrintsWithin, LineFault, FaultAt, FaultAfter, FirstFault}
use Rattle.fmp_trace_partial.specs.Marks.{filled, answer_kept_in, with_code, bound_in, with_bound, with_part, with_mark, with_marks, no_marks, marks_in}
use Rattle.fmp_trace_partial.specs.Said.{tells_runner, guess_from, guess_on, guess_numbered, guess_line, guess_plain, guess_marked, guess_said}
use Rattle.fmp_trace_partial.specs.Saying.{is_within, limited, confirmed, guessed, line_said, said_from, said_in}
use Rattle.fmp_trace_partial.specs.declared.kept.Kept.{Kept}
use Rattle.fmp_trace_partial.specs.declared.marks.Marks.{Marks}
use Rattle.fmp_trace_partial.specs.declared.telling.Said.{Said}
use Rattle.fmp_trace_partial.proofs.GuessedParts.{said_of, said_again, said_whole, line_found}
use Rattle.fmp_trace_partial.proofs.PrintedParts.{kept_printed}

-- ---- what is guessed fits

guess_from-fits : (names : NameLists) (runner : Bool) (p : Proc) (text : List ℕ) (r : Record) → AreValid names → p.number ≤ names.processors → guess_from names runner p text ≡ Some r → FitsNames names r
unfolding guess_from guess_runner
guess_from-fits names true p text r valid on h =
    let event = and_then_parts (cut_at 32 text).1 _ r h in
    let runner = and_then_parts (runner_in names (cut_at 32 text).0) _ r event.2 in
    guess_event-fits names runner.0 p event.0 r valid on (runner_in-fits names (cut_at 32 text).0 runner.0 valid runner.1) runner.2
guess_from-fits names false p text r valid on h = guess_event-fits names None p text r valid on tt h

guess_on-fits : (names : NameLists) (number : Bool) (digits : List ℕ) (s : Said) → AreValid names → guess_on names number digits ≡ Some s → FitsNames names s.entry
unfolding guess_on
guess_on-fits names number digits s valid h =
    let rest = and_then_parts (cut_at 32 digits).1 _ s h in
    let p = and_then_parts (processor_numbered names (cut_at 32 digits).0) _ s rest.2 in
    let r = and_then_parts (guess_from names (tells_runner rest.0) p.0 rest.0) _ s p.2 in
    let same : r.0 ≡ s.entry = let e = r.2 in cc in
    subst (FitsNames names) same (guess_from-fits names (tells_runner rest.0) p.0 rest.0 r.0 valid (processor_numbered-fits names (cut_at 32 digits).0 p.0 valid p.1) r.1)

guess_line-fits : (names : NameLists) (line : List ℕ) (digits : Option (List ℕ)) (s : Said) → AreValid names → guess_line names line digits ≡ Some s → FitsNames names s.entry
unfolding guess_numbered
guess_line-fits names line (Some digits) s valid h = guess_on-fits names false digits s valid h
guess_line-fits names line None s valid h =
    let rest = and_then_parts (cut_at 32 line).1 _ s h in
    let digits = and_then_parts (following 80 rest.0) _ s rest.2 in
    guess_on-fits names true digits.0 s valid digits.2

-- ---- the bound that is guessed has 32 bits

abbrev IsSmall : Option ℕ → Type 0
IsSmall None = Unit {0}
IsSmall (Some last) = last < 2 ^ 32

limited_small : (small other : Bool) (n last : ℕ) → ltb n (2 ^ 32) ≡ small → cond (small && other) (Some n) None ≡ Some last → last < 2 ^ 32
limited_small true true n last test e = let same : n ≡ last = cc in omega (arith, same, ltb-true n (2 ^ 32) test)
limited_small true false n last test e = absurd cc
limited_small false other n last test e = absurd cc

bound_in-small : (text : List ℕ) (last : ℕ) → bound_in text ≡ Some last → last < 2 ^ 32
unfolding bound_in
bound_in-small text last e =
    let number = and_then_parts (number_of text) _ last e in
    let magnitude = and_then_parts number.0.magnitude _ last number.2 in
    limited_small (ltb magnitude.0 (2 ^ 32)) _ magnitude.0 last refl magnitude.2

with_bound-small : (m q : Marks) (text : List ℕ) → with_bound m text ≡ Some q → IsSmall q.bound
unfolding with_bound
with_bound-small m q text e =
    let last = and_then_parts (bound_in text) _ q e in
    let same : Some last.0 ≡ q.bound = let e2 = last.2 in cc in
    subst IsSmall same (bound_in-small text last.0 last.1)

with_code-small : (m q : Marks) (code : List ℕ) → IsSmall m.bound → with_code m code ≡ Some q → IsSmall q.bound
unfolding with_code
with_code-small m q code small e =
    elim (cases_Bool (eqb (length m.releases) 64)) [
      | inl t ↦ let e2 = rw t at e in absurd cc
      | inr f ↦ let e2 = rw f at e in let same : m.bound ≡ q.bound = cc in subst IsSmall same small
    ]

code-small : (m q : Marks) (code : Option (List ℕ)) → IsSmall m.bound → option_map_or (with_code m) code (Some m) ≡ Some q → IsSmall q.bound
code-small m q None small e = let same : m.bound ≡ q.bound = cc in subst IsSmall same small
code-small m q (Some code) small e = with_code-small m q code small e

with_part-small : (m q : Marks) (key text : List ℕ) → IsSmall m.bound → with_part m key text ≡ Some q → IsSmall q.bound
unfolding with_part
with_part-small m q key text small e =
    elim (cases_Bool (bytes_eq key (codes "by"))) [
      | inl t ↦ with_bound-small m q text (rw t at e)
      | inr f ↦ code-small m q (cut_at 58 text).1 small (rw f at e)
    ]

part-small : (m q : Marks) (word key : List ℕ) (text : Option (List ℕ)) → IsSmall m.bound → option_map_or (with_part m key) text (Some (record m { answer = answer_kept_in word })) ≡ Some q → IsSmall q.bound
part-small m q word key None small e = let same : m.bound ≡ q.bound = cc in subst IsSmall same small
part-small m q word key (Some text) small e = with_part-small m q key text small e

with_marks-small : (m q : Marks) (words : List (List ℕ)) → IsSmall m.bound → with_marks m words ≡ Some q → IsSmall q.bound
unfolding with_mark
with_marks-small m q [] small e = let same : m.bound ≡ q.bound = cc in subst IsSmall same small
with_marks-small m q (word ∷ words) small e =
    let p = and_then_parts (with_mark m word) _ q e in
    with_marks-small p.0 q words (part-small m p.0 word (cut_at 61 word).0 (cut_at 61 word).1 small p.1) p.2

-- what is guessed: its record fits, and so does its bound
record Fits (names : NameLists) (s : Said) : Type 0 where
  entry : FitsNames names s.entry
  bound : IsSmall s.bound

guess_said-fits : (names : NameLists) (line : List ℕ) (s : Said) → AreValid names → guess_said names line ≡ Some s → Fits names s
unfolding guess_said guess_marked guess_plain
guess_said-fits names line s valid h =
    let full = filled line in
    let m = and_then_parts (marks_in line) _ s h in
    let plain = and_then_parts (guess_plain names full) _ s m.2 in
    let is = plain.2 in
    let entry : plain.0.entry ≡ s.entry = cc in
    let bound : m.0.bound ≡ s.bound = cc in
    record {
      entry = subst (FitsNames names) entry (guess_line-fits names full (following 80 full) plain.0 valid plain.1);
      bound = subst IsSmall bound (with_marks-small no_marks m.0 (pieces_of 32 line) tt m.1);
    }

-- ---- one line

-- what line n says, which is what is guessed of it
pub record IsSaid (names : NameLists) (n : ℕ) (line : List ℕ) (s : Said) : Type 0 where
  pub printed : line ≡ bounded_text names n s.kept s.bound s.entry
  pub fits : FitsNames names s.entry
  pub is_bound : IsBound n s.bound
  pub guess : guess_said names line ≡ Some s

pub said_prints : (names : NameLists) (n : ℕ) (line : List ℕ) (s : Said) → IsSaid names n line s → PartlyPrints names n line s.entry
said_prints names n line s said = record { kept = s.kept; bound = s.bound; printed = said.printed; fits = said.fits; is_bound = said.is_bound }

-- of a record that the line partly prints it says what is kept
pub printed_said : (names : NameLists) (n : ℕ) (line : List ℕ) (r : Record) → AreValid names → n < 2 ^ 64 → (prints : PartlyPrints names n line r) → guess_said names line ≡ Some (said_of prints.kept prints.bound r)
printed_said names n line r valid small prints = ap (guess_said names) prints.printed ∙ line_found names r valid prints.fits n prints.kept prints.bound small prints.is_bound

-- whatever record it is, the line is what its parts print of it
pub printed_parts : (names : NameLists) (n : ℕ) (line : List ℕ) (s : Said) (r : Record) → AreValid names → n < 2 ^ 64 → IsSaid names n line s → PartlyPrints names n line r
    → bounded_text names n s.kept s.bound r ≡ bounded_text names n s.kept s.bound s.entry
printed_parts names n line s r valid small said prints =
    let found : ◌≡◌ {A = Option Said} (Some s) (Some (said_of prints.kept prints.bound r)) = sym said.guess ∙ printed_said names n line r valid small prints in
    let same : s ≡ said_of prints.kept prints.bound r = cc in
    ap (λ (x : Said). bounded_text names n x.kept x.bound r) same ∙ said_whole names n prints.kept prints.bound r ∙ sym prints.printed ∙ said.printed

bound_within : (n : ℕ) (bound : Option ℕ) → IsBound n bound → is_within n bound ≡ true
bound_within n None is_bound = refl
bound_within n (Some last) is_bound = let test = le-ltb last n is_bound.0 in rw test refl

within_bound : (n : ℕ) (bound : Option ℕ) → IsSmall bound → is_within n bound ≡ true → IsBound n bound
within_bound n None small within = tt
within_bound n (Some last) small within =
    elim (cases_Bool (ltb last n)) [
      | inl t ↦ absurd (false≢true (rw t at within))
      | inr f ↦ (ltb-false last n f, small)
    ]

-- a line that partly prints a record is read, where there is room for it
pub line_read : (names : NameLists) (n : ℕ) (line : List ℕ) (r : Record) → AreValid names → n < 2 ^ 64 → (prints : PartlyPrints names n line r) → line_said names n line ≡ limited n (said_of prints.kept prints.bound r)
unfolding line_said confirmed
line_read names n line r valid small prints =
    let is_line = prints.printed in
    let s = said_of prints.kept prints.bound r in
    let printed = kept_printed names r valid prints.fits n prints.kept prints.bound small prints.is_bound in
    let found = line_found names r valid prints.fits n prints.kept prints.bound small prints.is_bound in
    let same = (bytes_eq-Decides (bounded_text names n s.kept s.bound s.entry) (bounded_text names n prints.kept prints.bound r)).1 (said_again names n prints.kept prints.bound r) in
    let within = bound_within n prints.bound prints.is_bound in
    rw (is_line, printed, found, same, within) refl

pub limited_ok : (n : ℕ) (s : Said) → n ≤ most_events → limited n s ≡ Ok s
unfolding limited
limited_ok n s few = let test = le-ltb most_events n few in rw test refl

-- what is known of how a line was read
abbrev pub LineReported : NameLists → ℕ → List ℕ → Result Said TextKind → Type 0
LineReported names n line (Ok s) = IsSaid names n line s × (n ≤ most_events)
LineReported names n line (Err kind) = (kind ≢ CutShort) × LineFault names n line kind

limited_reported : (names : NameLists) (n : ℕ) (line : List ℕ) (s : Said) → IsSaid names n line s → LineReported names n line (limited n s)
unfolding limited
limited_reported names n line s said =
    elim (cases_Bool (ltb most_events n)) [
      | inl t ↦ rw t ((λ e. absurd cc), (ltb-true most_events n t, (s.entry, said_prints names n line s said)))
      | inr f ↦ rw f (said, ltb-false most_events n f)
    ]

-- a guess is right: it prints the line, and its bound is within
abbrev is_right : NameLists → ℕ → List ℕ → Said → Bool
is_right names n line s = bytes_eq (bounded_text names n s.kept s.bound s.entry) line && is_within n s.bound

-- a line of printed bytes that is no right guess prints nothing
no_record : (names : NameLists) (n : ℕ) (line : List ℕ) (found : Option Said) → AreValid names → n < 2 ^ 64 → guess_said names line ≡ found → ((s : Said) → found ≡ Some s → is_right names n line s ≡ true → ⊥) → (r : Record) → PartlyPrints names n line r → ⊥
no_record names n line found valid small is_found wrong r prints =
    let s = said_of prints.kept prints.bound r in
    let right : found ≡ Some s = sym is_found ∙ printed_said names n line r valid small prints in
    wrong s right (and_from (bytes_eq (bounded_text names n s.kept s.bound s.entry) line) (is_within n s.bound)
    ((bytes_eq-Decides (bounded_text names n s.kept s.bound s.entry) line).1 (said_again names n prints.kept prints.bound r ∙ sym prints.printed))
    (bound_within n prints.bound prints.is_bound))

guessed_reported : (names : NameLists) (n : ℕ) (line : List ℕ) (found : Option Said) → AreValid names → n < 2 ^ 64 → list_all (is_of Printed) line ≡ true → guess_said names line ≡ found → LineReported names n line (guessed names n line found)
unfolding confirmed
guessed_reported names n line None valid small printed is_found = ((λ e. absurd cc), (printed, no_record names n line None valid small is_found (λ s e h. absurd cc)))
guessed_reported names n line (Some g) valid small printed is_found =
    elim (cases_Bool (is_right names n line g)) [
      | inl t ↦
          let parts = and_parts (bytes_eq (bounded_text names n g.kept g.bound g.entry) line) (is_within n g.bound) t in
          let fits = guess_said-fits names line g valid is_found in
          rw t (limited_reported names n line g (record {
            printed = sym ((bytes_eq-Decides (bounded_text names n g.kept g.bound g.entry) line).0 parts.0);
            fits = fits.entry;
            is_bound = within_bound n g.bound fits.bound parts.1;
            guess = is_found;
          }))
      | inr f ↦ rw f ((λ e. absurd cc), (printed, no_record names n line (Some g) valid small is_found (λ s e h. let same : g ≡ s = cc in false≢true (sym f ∙ ap (is_right names n line) same ∙ h))))
    ]

pub line_reported : (names : NameLists) (n : ℕ) (line : List ℕ) → AreValid names → n < 2 ^ 64 → LineReported names n line (line_said names n line)
unfolding line_said
line_reported names n line valid small =
    elim (cases_Bool (list_all (is_of Printed) line)) [
      | inl t ↦ rw t (guessed_reported names n line (guess_said names line) valid small t refl)
      | inr f ↦ rw f ((λ e. absurd cc), f)
    ]

-- ---- what partly prints records is read

-- what the lines say is what is kept of the records
abbrev pub AreSaid : NameLists → List Said → List Record → Type 0
AreSaid names [] [] = Unit {0}
AreSaid names (s ∷ ss) (r ∷ rs) = ((kept : Kept) × (bound : Option ℕ) × (s ≡ said_of kept bound r)) × AreSaid names ss rs
AreSaid names _ _ = ⊥

-- the pieces of a text that begins with a line
pub line_pieces : (text line rest : List ℕ) → BeginsWith text line rest → pieces_of 10 text ≡ line ∷ pieces_of 10 rest
line_pieces text line rest begins =
    let cut = cut_at-append 10 line rest begins.unended in
    ap (pieces_of 10) begins.parts
    ∙ first_piece (line ++ 10 ∷ rest) line rest (ap (λ (p : List ℕ × Option (List ℕ)). p.0) cut) (ap (λ (p : List ℕ × Option (List ℕ)). p.1) cut)

pub said_from-line : (names : NameLists) (n : ℕ) (line rest : List ℕ) → said_from names n (line ∷ pieces_of 10 rest) ≡ (at_line n (line_said names n line) >>= λ s. said_from names (n + 1) (pieces_of 10 rest) >>= λ others. Ok (s ∷ others))
unfolding said_from
said_from-line names n line rest = rw (pieces_of-cut 10 rest) refl

-- what is read of a text that partly prints records
pub record IsRead (names : NameLists) (n : ℕ) (text : List ℕ) (records : List Record) : Type 0 where
  pub said : List Said
  pub read : said_from names n (pieces_of 10 text) ≡ Ok said
  pub same : AreSaid names said records

pub texts_read : (names : NameLists) (n : ℕ) (text : List ℕ) (rs : List Record) → AreValid names → n + length rs ≤ most_events + 1 → PartlyPrintsFrom names n text rs → IsRead names n text rs
unfolding said_from pieces_of
texts_read names n text [] valid few prints = record { said = []; read = rw prints refl; same = tt }
texts_read names n text (r ∷ rs) valid few (line, rest, begins, here, others) =
    let small : n < 2 ^ 64 = omega (arith, few) in
    let s = said_of here.kept here.bound r in
    let first : at_line n (line_said names n line) ≡ Ok s = ap (at_line n) (line_read names n line r valid small here ∙ limited_ok n s (omega (arith, few))) in
    let more = texts_read names (n + 1) rest rs valid (omega (arith, few)) others in
    let read = more.read in
    record {
      said = s ∷ more.said;
      read = ap (said_from names n) (line_pieces text line rest begins) ∙ rw (said_from-line, first, read) refl;
      same = ((here.kept, here.bound, refl), more.same);
    }

-- ---- what is told of a text

-- the lines of a text say this, from line n on
abbrev pub SaysFrom : NameLists → ℕ → List ℕ → List Said → Type 0
SaysFrom names n text [] = text ≡ []
SaysFrom names n text (s ∷ ss) = (line : List ℕ) × (rest : List ℕ) × BeginsWith text line rest × IsSaid names n line s × SaysFrom names (n + 1) rest ss

-- so they partly print what these records are
pub says_prints : (names : NameLists) (n : ℕ) (text : List ℕ) (ss : List Said) → SaysFrom names n text ss → PartlyPrintsFrom names n text (map (λ s. s.entry) ss)
says_prints names n text [] says = says
says_prints names n text (s ∷ ss) (line, rest, begins, here, others) = (line, rest, begins, said_prints names n line s here, says_prints names (n + 1) rest ss others)

-- a fault of a text whose first line is line n
pub record FaultFrom (names : NameLists) (n : ℕ) (text : List ℕ) (fault : TextFault) : Type 0 where
  pub before : List Record
  pub lines : List ℕ
  pub rest : List ℕ
  pub at : ℕ
  pub parts : text ≡ lines ++ rest
  pub prints : PartlyPrintsFrom names n lines before
  pub is_at : at ≡ n + length before
  pub few : at ≤ most_events + 1
  pub line : fault.line ≡ at
  pub here : FaultAt names at rest fault.kind

abbrev pub Report : NameLists → ℕ → List ℕ → Result (List Said) TextFault → Type 0
Report names n text (Ok ss) = SaysFrom names n text ss × (n + length ss ≤ most_events + 1)
Report names n text (Err fault) = FaultFrom names n text fault

last_reported : (names : NameLists) (n : ℕ) (last : List ℕ) → n ≤ most_events + 1 → IsUnended last → Report names n last (cond (eqb (length last) 0) (Ok []) (Err (record { kind = CutShort; line = n })))
last_reported names n last few unended =
    elim (cases_Bool (eqb (length last) 0)) [
      | inl t ↦ rw t (nil_from_length last (eqb-true (length last) 0 t), omega (arith, few))
      | inr f ↦ rw f (record { before = []; lines = []; rest = last; at = n; parts = refl; prints = refl; is_at = omega arith; few = few; line = refl; here = (omega (arith, eqb-false (length last) 0 f), unended) })
    ]

fault_at : (names : NameLists) (n : ℕ) (text line rest : List ℕ) (kind : TextKind) → BeginsWith text line rest → kind ≢ CutShort → LineFault names n line kind → FaultAt names n text kind
fault_at names n text line rest CutShort begins other fault = absurd (other refl)
fault_at names n text line rest BadByte begins other fault = (line, rest, begins, fault)
fault_at names n text line rest BadWord begins other fault = (line, rest, begins, fault)
fault_at names n text line rest TooMany begins other fault = (line, rest, begins, fault)
fault_at names n text line rest UnknownName begins other fault = absurd fault
fault_at names n text line rest WrongArguments begins other fault = absurd fault
fault_at names n text line rest NumberOutOfRange begins other fault = absurd fault
fault_at names n text line rest Memory begins other fault = absurd fault

-- one line more in front
module _ (names : NameLists) (n : ℕ) (line rest : List ℕ) (few : n ≤ most_events + 1) (unended : IsUnended line) where
  begins : (after : List ℕ) → BeginsWith (line ++ 10 ∷ after) line after
  begins after = record { parts = refl; unended = unended }

  step_recorded : (read : Result Said TextKind) (others : Result (List Said) TextFault) → LineReported names n line read → (n ≤ most_events → Report names (n + 1) rest others)
      → Report names n (line ++ 10 ∷ rest) (at_line n read >>= λ s. others >>= λ list. Ok (s ∷ list))
  step_recorded (Err kind) others report more =
      record { before = []; lines = []; rest = line ++ 10 ∷ rest; at = n; parts = refl; prints = refl; is_at = omega arith; few = few; line = refl; here = fault_at names n (line ++ 10 ∷ rest) line rest kind (begins rest) report.0 report.1 }
  step_recorded (Ok s) (Ok list) report more =
      let next = more report.1 in
      ((line, rest, begins rest, report.0, next.0), omega (arith, next.1))
  step_recorded (Ok s) (Err fault) report more =
      let next = more report.1 in
      let follows = next.parts in
      record {
        before = s.entry ∷ next.before;
        lines = line ++ 10 ∷ next.lines;
        rest = next.rest;
        at = next.at;
        parts = ap (λ (t : List ℕ). line ++ 10 ∷ t) follows ∙ sym (append_assoc line (10 ∷ next.lines) next.rest);
        prints = (line, next.lines, begins next.lines, said_prints names n line s report.0, next.prints);
        is_at = omega (arith, next.is_at);
        few = next.few;
        line = next.line;
        here = next.here;
      }

lines_reported : (names : NameLists) (n : ℕ) (lines : List (List ℕ)) → AreValid names → n ≤ most_events + 1 → 0 < length lines → list_all (list_all (λ b. not (eqb b 10))) lines ≡ true → Report names n (join_with_byte 10 lines) (said_from names n lines)
unfolding said_from
lines_reported names n [] valid few some apart = absurd (omega (arith, some))
lines_reported names n (last ∷ []) valid few some apart = last_reported names n last few (and_parts (list_all (λ b. not (eqb b 10)) last) true apart).0
lines_reported names n (line ∷ next ∷ lines) valid few some apart =
    let parts = and_parts (list_all (λ b. not (eqb b 10)) line) (list_all (list_all (λ b. not (eqb b 10))) (next ∷ lines)) apart in
    step_recorded names n line (join_with_byte 10 (next ∷ lines)) few parts.0 (line_said names n line) (said_from names (n + 1) (next ∷ lines)) (line_reported names n line valid (omega (arith, few)))
    (λ within. lines_reported names (n + 1) (next ∷ lines) valid (omega (arith, within)) (omega arith) parts.1)

text_reported : (names : NameLists) (text : List ℕ) → AreValid names → Report names 1 text (said_from names 1 (pieces_of 10 text))
text_reported names text valid =
    subst (λ (t : List ℕ). Report names 1 t (said_from names 1 (pieces_of 10 text))) (join-pieces_of 10 text) (lines_reported names 1 (pieces_of 10 text) valid (omega arith) (some-pieces_of 10 text) (apart-pieces_of 10 text))

-- ---- whole texts

-- what a text within the limits says
pub record SaysWithin (names : NameLists) (text : List ℕ) (ss : List Said) : Type 0 where
  pub says : SaysFrom names 1 text ss
  pub few : length ss ≤ most_events
  pub short : length text ≤ most_bytes

pub read_says : (names : NameLists) (text : List ℕ) (ss : List Said) → AreValid names → said_in names text ≡ Ok ss → SaysWithin names text ss
unfolding said_in
read_says names text ss valid e =
    let p = too_long (ltb most_bytes (length text)) (said_from names 1 (pieces_of 10 text)) _ ss e in
    let report = subst (Report names 1 text) p.1 (text_reported names text valid) in
    record { says = report.0; few = omega (arith, report.1); short = ltb-false most_bytes (length text) p.0 }

-- what is read of a whole text that partly prints records
pub record IsReadWhole (names : NameLists) (text : List ℕ) (records : List Record) : Type 0 where
  pub said : List Said
  pub read : said_in names text ≡ Ok said
  pub same : AreSaid names said records

pub prints_read : (names : NameLists) (text : List ℕ) (rs : List Record) → AreValid names → PartlyPrintsWithin names text rs → IsReadWhole names text rs
unfolding said_in
prints_read names text rs valid p =
    let short = le-ltb most_bytes (length text) p.short in
    let few = p.few in
    let found = texts_read names 1 text rs valid (omega (arith, few)) p.prints in
    record { said = found.said; read = rw short found.read; same = found.same }

err_parts : (long : Bool) (read : Result (List Said) TextFault) (first fault : TextFault) → cond long (Err first) read ≡ Err fault → ((long ≡ true) × (fault ≡ first)) ⊎ ((long ≡ false) × (read ≡ Err fault))
err_parts true read first fault e = let same : first ≡ fault = cc in inl (refl, sym same)
err_parts false read first fault e = inr (refl, e)

from_first : (names : NameLists) (text : List ℕ) (fault : TextFault) → length text ≤ most_bytes → FaultFrom names 1 text fault → FaultAfter names text fault
from_first names text fault short f =
    let at : f.at ≡ length f.before + 1 = omega (arith, f.is_at) in
    let few = f.few in let here = f.here in
    record { before = f.before; lines = f.lines; rest = f.rest; short = short; parts = f.parts; prints = f.prints; few = omega (arith, few, at); line = f.line ∙ at; here = subst (λ (k : ℕ). FaultAt names k f.rest fault.kind) at here }

pub fault_is_first : (names : NameLists) (text : List ℕ) (fault : TextFault) → AreValid names → said_in names text ≡ Err fault → FirstFault names text fault
unfolding said_in
fault_is_first names text fault valid e =
    elim (err_parts (ltb most_bytes (length text)) (said_from names 1 (pieces_of 10 text)) (record { kind = TooMany; line = 0 }) fault e) [
      | inl p ↦ inl (ltb-true most_bytes (length text) p.0, p.1)
      | inr p ↦ inr (from_first names text fault (ltb-false most_bytes (length text) p.0) (subst (Report names 1 text) p.1 (text_reported names text valid)))
    ]
