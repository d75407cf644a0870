-- What is written of events is read back as these events.
use Rattle.std.proofs.Common.{◌≡◌, ◌∙◌, ℕ, ◌*◌, ◌≤◌, true, false, not, eqb, inl, inr, List, [], ◌∷◌, ◌++◌, length, None, refl, sym, ap, subst, arith, length-append, append_assoc, decimal}
use Rattle.std.specs.Prelude.{All, codes}
use Rattle.std.specs.List.{list_all, join_with_byte, sum_by}
use Rattle.std.proofs.lemmas.Bool.{and_from, le-ltb}
use Rattle.std.proofs.lemmas.List.{append-nil, take_all}
use Rattle.std.proofs.lemmas.List.Elements.{All-head, All-tail}
use Rattle.std.proofs.lemmas.List.Sums.{sum_by-cons}
use Rattle.fmp_bytes.specs.declared.classes.Class.TheVariants.{Line}
use Rattle.fmp_bytes.specs.Bytes.{is_of}
use Rattle.fmp_calls.specs.Arguments.{EventInBits}
use Rattle.fmp_codes.proofs.Same.{as_proc-number}
use Rattle.fmp_codes.specs.Records.{AreOn, answer_record, processor_of}
use Rattle.fmp_codes.specs.declared.numbers.Proc.{Proc}
use Rattle.fmp_codes.specs.declared.records.Answer.TheVariants as answers
use Rattle.fmp_codes.specs.declared.records.Event.{Event}
use Rattle.fmp_codes.specs.declared.records.Event.TheVariants as events
use Rattle.fmp_codes.specs.declared.records.Record.{Record}
use Rattle.fmp_names.specs.Names.{NameLists, AreValid}
use Rattle.fmp_text.proofs.SpelledCalls.{call_is_spelled}
use Rattle.fmp_text.proofs.SpelledEvents.{line_of_spelled}
use Rattle.fmp_text.proofs.SpelledTexts.{reading_of-spelled}
use Rattle.fmp_text.specs.Events.{reading_by_line, reading_from, reading_of}
use Rattle.fmp_text.specs.Limits.{most_bytes, most_events}
use Rattle.fmp_text.specs.TextGrammar.{IsAlone, OnProcessor, SpellsEvent, SpellsLines, SpellsText}
use Rattle.fmp_trace.proofs.Bytes.{other_than}
use Rattle.fmp_trace.proofs.GuessedCalls.{call_read}
use Rattle.fmp_trace.proofs.Lengths.{lines_few}
use Rattle.fmp_trace.specs.Fits.{FitsNames}
use Rattle.fmp_trace.specs.Lines.{core_text, event_text, head_text, line_text, lines_from, tail_text}
use Rattle.fmp_trace.specs.Values.{call_text}
use Rattle.fmp_run_shrink.specs.Written.Telling.{IsReadBack, event_line, event_lines}

-- ---- one line

-- the line of an event, without its line feed
abbrev core : NameLists → Event → List ℕ
core names e = 80 ∷ (decimal (processor_of e).number ++ (32 ∷ event_text names e))

cut_line : (digits text : List ℕ) → codes "P" ++ digits ++ codes " " ++ text ++ codes "\n" ≡ (80 ∷ (digits ++ (32 ∷ text))) ++ (10 ∷ [])
cut_line digits text = ap (λ (l : List ℕ). 80 ∷ (l ++ (10 ∷ []))) (append_assoc digits (32 ∷ []) text)

line_is : (names : NameLists) (e : Event) → event_line names e ≡ core names e ++ (10 ∷ [])
unfolding event_line
line_is names e = cut_line (decimal (processor_of e).number) (event_text names e)

on_processor : (names : NameLists) (p : Proc) (Happens : List ℕ → Type 0) (rest : List ℕ) → p.number ≤ names.processors → Happens rest
    → OnProcessor names p Happens (80 ∷ (decimal p.number ++ (32 ∷ rest)))
unfolding is_of
on_processor names p Happens rest most happens = record {
  before = [];
  number = p.number;
  between = 32 ∷ [];
  rest = rest;
  before_blank = refl;
  least = p.least;
  most = most;
  is_number = sym (as_proc-number p);
  apart = omega arith;
  between_blank = refl;
  happens = happens;
  parts = refl;
}

-- the word of a tick or of an interrupt, with nothing after it
alone : (word : List ℕ) → IsAlone word word
alone word = record { following = []; after_blank = refl; parts = sym (append-nil word) }

event_spelled : (names : NameLists) (e : Event) → AreValid names → (processor_of e).number ≤ names.processors → EventInBits e → SpellsEvent names (core names e) e
event_spelled names (events.Tick p) valid on bits = on_processor names p (IsAlone (codes "tick")) (codes "tick") on (alone (codes "tick"))
event_spelled names (events.Ipi p) valid on bits = on_processor names p (IsAlone (codes "ipi")) (codes "ipi") on (alone (codes "ipi"))
event_spelled names (events.Call p call) valid on bits =
    on_processor names p _ (call_text names call) on (call_is_spelled names (call_text names call) call (call_read names call valid bits))

-- there is no line feed in it
core_apart : (names : NameLists) (e : Event) → AreValid names → (processor_of e).number ≤ names.processors → EventInBits e → list_all (λ b. not (eqb b 10)) (core names e) ≡ true
unfolding is_of
core_apart names e valid on bits = other_than (is_of Line) 10 refl (core names e) (line_of_spelled names (core names e) e valid (event_spelled names e valid on bits))

-- ---- its bytes: no more than the line of a trace has that tells nothing but the event

abbrev report : Event → Record
report e = answer_record e None answers.Nothing

report_fits : (names : NameLists) (e : Event) → (processor_of e).number ≤ names.processors → EventInBits e → FitsNames names (report e)
report_fits names e on bits = record { processor = on; event = bits; runner = tt; answer = tt; releases = tt; few = omega arith; lost = tt; run_change = tt; requests = tt }

-- what stands before and after the event there only makes it longer
shorter : (one digits text : List ℕ) → length (codes "P" ++ digits ++ codes " " ++ text ++ codes "\n")
    ≤ length ((one ++ codes " P" ++ digits ++ codes " " ++ codes "-" ++ codes " ") ++ text ++ codes " " ++ codes "none" ++ [] ++ codes "\n")
shorter one digits text =
    let whole = codes "P" ++ digits ++ codes " " ++ text in
    let head = one ++ codes " P" ++ digits ++ codes " " ++ codes "-" ++ codes " " in
    let named = head ++ text ++ codes " " ++ codes "none" in
    omega (
      arith,
      length-append whole (10 ∷ []),
      length-append (codes "P" ++ digits ++ codes " ") text,
      length-append (codes "P" ++ digits) (32 ∷ []),
      length-append (named ++ []) (10 ∷ []),
      length-append named [],
      length-append (head ++ text ++ codes " ") (codes "none"),
      length-append (head ++ text) (32 ∷ []),
      length-append head text,
      length-append (one ++ codes " P" ++ digits ++ codes " " ++ codes "-") (32 ∷ []),
      length-append (one ++ codes " P" ++ digits ++ codes " ") (45 ∷ []),
      length-append (one ++ codes " P" ++ digits) (32 ∷ []),
      length-append (one ++ codes " P") digits,
      length-append one (codes " P"),
    )

within_line : (names : NameLists) (e : Event) → length (event_line names e) ≤ length (line_text names 1 (report e))
unfolding event_line line_text core_text head_text tail_text
within_line names e = shorter (decimal 1) (decimal (processor_of e).number) (event_text names e)

line_few : (names : NameLists) (e : Event) → AreValid names → (processor_of e).number ≤ names.processors → EventInBits e → length (event_line names e) ≤ 738
line_few names e valid on bits =
    let all = lines_few names valid 1 (report e ∷ []) (report_fits names e on bits, tt) in
    let none : sum_by (λ (x : Record). length x.releases) (report e ∷ []) ≡ 0 = sum_by-cons (λ (x : Record). length x.releases) (report e) [] in
    let whole : length (lines_from names 1 (report e ∷ [])) ≡ length (line_text names 1 (report e)) = ap (λ (l : List ℕ). length l) (append-nil (line_text names 1 (report e))) in
    omega (arith, within_line names e, all, none, whole)

-- ---- all lines

abbrev lines : NameLists → List Event → List (List ℕ)
lines names [] = [] ∷ []
lines names (e ∷ es) = core names e ∷ lines names es

-- a line feed stands after each line
joined : (names : NameLists) (es : List Event) → event_lines names es ≡ join_with_byte 10 (lines names es)
joined names [] = refl
joined names (e ∷ []) = append-nil (event_line names e) ∙ line_is names e
joined names (e ∷ x ∷ es) =
    ap (λ (l : List ℕ). l ++ event_lines names (x ∷ es)) (line_is names e)
    ∙ append_assoc (core names e) (10 ∷ []) (event_lines names (x ∷ es))
    ∙ ap (λ (l : List ℕ). core names e ++ (10 ∷ l)) (joined names (x ∷ es))

module _ (names : NameLists) (valid : AreValid names) where
  abbrev P : Event → Type 0
  P e = (processor_of e).number ≤ names.processors

  cut : (es : List Event) → AreOn names.processors es → All EventInBits es → list_all (list_all (λ b. not (eqb b 10))) (lines names es) ≡ true
  cut [] on bits = refl
  cut (e ∷ es) on bits =
      and_from (list_all (λ b. not (eqb b 10)) (core names e)) (list_all (list_all (λ b. not (eqb b 10))) (lines names es))
      (core_apart names e valid (All-head P e es on) (All-head EventInBits e es bits)) (cut es (All-tail P e es on) (All-tail EventInBits e es bits))

  spelled : (es : List Event) → AreOn names.processors es → All EventInBits es → SpellsLines names (lines names es) es
  spelled [] on bits = (inl refl, refl)
  spelled (e ∷ []) on bits =
      let here = event_spelled names e valid (All-head P e [] on) (All-head EventInBits e [] bits) in
      inr (e, [], (core names e, inl refl, here), refl, (inl refl, refl))
  spelled (e ∷ x ∷ es) on bits =
      let here = event_spelled names e valid (All-head P e (x ∷ es) on) (All-head EventInBits e (x ∷ es) bits) in
      inr (e, x ∷ es, (core names e, inl refl, here), refl, spelled (x ∷ es) (All-tail P e (x ∷ es) on) (All-tail EventInBits e (x ∷ es) bits))

  few_bytes : (es : List Event) → AreOn names.processors es → All EventInBits es → length (event_lines names es) ≤ 738 * length es
  few_bytes [] on bits = omega arith
  few_bytes (e ∷ es) on bits =
      let here = line_few names e valid (All-head P e es on) (All-head EventInBits e es bits) in
      let rest = few_bytes es (All-tail P e es on) (All-tail EventInBits e es bits) in
      omega (arith, here, rest, length-append (event_line names e) (event_lines names es))

  text_spelled : (es : List Event) → AreOn names.processors es → All EventInBits es → length es ≤ most_events → SpellsText names (event_lines names es) es
  text_spelled es on bits few = record {
    lines = lines names es;
    parts = joined names es;
    cut = cut es on bits;
    spelled = spelled es on bits;
    few = few;
    short = omega (arith, few, few_bytes es on bits);
  }

-- a text within the limit is read line by line as it is as a whole
lines_as_whole : (names : NameLists) (text : List ℕ) → length text ≤ most_bytes → reading_by_line names text ≡ reading_of names text
unfolding reading_by_line reading_of
lines_as_whole names text short =
    let within = le-ltb most_bytes (length text) short in
    rw within (ap (reading_from names false 0 0 []) (take_all most_bytes text short))

pub is_read_back : (names : NameLists) (text : List ℕ) (es : List Event) → AreValid names → text ≡ event_lines names es → AreOn names.processors es → All EventInBits es
    → length es ≤ most_events → IsReadBack names text es
is_read_back names text es valid is on bits few =
    let spells : SpellsText names text es = subst (λ (t : List ℕ). SpellsText names t es) (sym is) (text_spelled names valid es on bits few) in
    let whole = reading_of-spelled names text es valid spells in
    record { spells = spells; whole = whole; by_line = lines_as_whole names text spells.short ∙ whole }
