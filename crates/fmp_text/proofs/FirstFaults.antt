-- A fault of an event text stands in its line: the lines before it are read without one, and nothing after it is.
use Rattle.std.proofs.Common.{◌≡◌, ℕ, ◌+◌, ◌<◌, ◌≤◌, Bool, true, false, not, ◌⊎◌, cond, eqb, ltb, inl, inr, List, [], ◌∷◌, ◌++◌, length, Option, Some, None, Result, Ok, Err, refl, sym, ap, subst, ◌∙◌, arith, length-append, append_assoc}
use Rattle.std.specs.List.{list_all, join_with_byte}
use Rattle.std.proofs.lemmas.Bool.{and_parts, ltb-true, ltb-false, lt-ltb, le-ltb, false≢true}
use Rattle.std.proofs.lemmas.List.{append-nil}
use Rattle.fmp_codes.specs.declared.records.Event.{Event}
use Rattle.fmp_bytes.specs.Bytes.{pieces_of}
use Rattle.fmp_bytes.proofs.Cutting.{join-pieces_of, some-pieces_of, apart-pieces_of}
use Rattle.fmp_names.specs.Names.{NameLists, AreValid}
use Rattle.fmp_text.specs.Limits.{most_bytes, most_events}
use Rattle.fmp_text.specs.declared.fault.TextFault.{TextFault}
use Rattle.fmp_text.specs.declared.fault.TextKind.{TextKind}
use Rattle.fmp_text.specs.declared.fault.TextKind.TheVariants.{CutShort, TooMany}
use Rattle.fmp_text.specs.Lines.{is_skipped, line_event}
use Rattle.fmp_text.specs.Events.{Reading, after_line, fault_at, faultless, reading_from, reading_of, with_events}
use Rattle.fmp_text.specs.TextGrammar.{SpellsText}
use Rattle.fmp_text.specs.FirstFaults.{lines_text, AreApart, IsFaultOfLine, FaultInLine, FaultAtEnd, FirstFault}
use Rattle.fmp_text.proofs.EventFaults.{event_fault}
use Rattle.fmp_text.proofs.Scanned.{reading_from-cut, reading_from-last}
use Rattle.fmp_text.proofs.SpelledTexts.{no_feed, rest_read, line_spelled, reading_of-spelled, text_is_spelled}

-- ---- whole lines

-- one line more
pub lines_text-push : (before : List (List ℕ)) (line more : List ℕ) → lines_text (before ++ (line ∷ [])) ++ more ≡ lines_text before ++ (line ++ (10 ∷ more))
lines_text-push [] line more = append_assoc line (10 ∷ []) more
lines_text-push (l ∷ before) line more =
    append_assoc l (10 ∷ lines_text (before ++ (line ∷ []))) more ∙ ap (λ (t : List ℕ). l ++ (10 ∷ t)) (lines_text-push before line more)
    ∙ sym (append_assoc l (10 ∷ lines_text before) (line ++ (10 ∷ more)))

pub apart-push : (before : List (List ℕ)) (line : List ℕ) → AreApart before → list_all (λ b. not (eqb b 10)) line ≡ true → AreApart (before ++ (line ∷ []))
apart-push [] line all here = rw here refl
apart-push (l ∷ before) line all here =
    let p = and_parts (list_all (λ b. not (eqb b 10)) l) (list_all (list_all (λ b. not (eqb b 10))) before) all in
    let rest = apart-push before line p.1 here in
    rw (p.0, rest) refl

pub apart-cons : (before : List (List ℕ)) (line : List ℕ) → AreApart before → list_all (λ b. not (eqb b 10)) line ≡ true → AreApart (line ∷ before)
apart-cons before line all here = rw (here, all) refl

pub length-push : (before : List (List ℕ)) (line : List ℕ) → length before + 1 ≡ length (before ++ (line ∷ []))
length-push before line = omega (arith, length-append before (line ∷ []))

with_events-twice : (events : List Event) (event : Event) (r : Reading) → with_events events (with_events (event ∷ []) r) ≡ with_events (events ++ (event ∷ [])) r
with_events-twice events event r = ap (λ (es : List Event). record { events = es; fault = r.fault }) (sym (append_assoc events (event ∷ []) r.events))

with_fault : (events : List Event) (kind : TextKind) (line : ℕ) → with_events events (fault_at kind line) ≡ record { events = events; fault = Some (record { kind = kind; line = line }) }
with_fault events kind line = ap (λ (es : List Event). record { events = es; fault = Some (record { kind = kind; line = line }) }) (append-nil events)

-- these lines are read without a fault, as these events
record After (names : NameLists) (before : List (List ℕ)) (events : List Event) : Type 0 where
  apart : AreApart before
  few : length events ≤ most_events
  reads : (more : List ℕ) → reading_from names false 0 0 [] (lines_text before ++ more) ≡ with_events events (reading_from names false (length before) (length events) [] more)

-- what is found, where a text has this fault
record Found (names : NameLists) (text : List ℕ) (fault : TextFault) : Type 0 where
  events : List Event
  reads : reading_from names false 0 0 [] text ≡ record { events = events; fault = Some fault }
  stands : FaultInLine names text events fault ⊎ FaultAtEnd names text events fault

no_fault : (events others : List Event) (fault : TextFault) → ◌≡◌ {A = Reading} (faultless others) (record { events = events; fault = Some fault }) → ⊥
no_fault events others fault e = let bad = ap (λ (r : Reading). r.fault) e in absurd cc

same_fault : (a b : TextFault) → ◌≡◌ {A = Option TextFault} (Some a) (Some b) → a ≡ b
same_fault a b e = cc

module _ (names : NameLists) (valid : AreValid names) (before : List (List ℕ)) (events : List Event) (after : After names before events) where
  -- these lines alone spell the events
  spelled : length (lines_text before) ≤ most_bytes → SpellsText names (lines_text before) events
  unfolding reading_of reading_from is_skipped
  spelled fits =
      let short = le-ltb most_bytes (length (lines_text before)) fits in
      let whole : reading_from names false 0 0 [] (lines_text before) ≡ faultless events =
      ap (reading_from names false 0 0 []) (sym (append-nil (lines_text before))) ∙ after.reads [] ∙ ap (λ (es : List Event). faultless es) (append-nil events) in
      text_is_spelled names (lines_text before) events (rw short whole)

  module _ (line : List ℕ) (here : list_all (λ b. not (eqb b 10)) line ≡ true) where
    -- the next line
    reads_line : (more : List ℕ) → reading_from names false 0 0 [] (lines_text before ++ (line ++ (10 ∷ more))) ≡ with_events events (after_line (length before + 1) (length events) (line_event names line)
        (reading_from names false (length before + 1) (length events) [] more) (reading_from names false (length before + 1) (length events + 1) [] more))
    reads_line more = after.reads (line ++ (10 ∷ more)) ∙ ap (with_events events) (reading_from-cut names false (length before) (length events) [] line more (no_feed line here))

    -- a line without an event
    skips : line_event names line ≡ Ok None → After names (before ++ (line ∷ [])) events
    skips says = record {
      apart = apart-push before line after.apart here;
      few = after.few;
      reads = λ more. ap (reading_from names false 0 0 []) (lines_text-push before line more) ∙ reads_line more
          ∙ ap (λ (s : Result (Option Event) TextKind). with_events events (after_line (length before + 1) (length events) s (reading_from names false (length before + 1) (length events) [] more) (reading_from names false (length before + 1) (length events + 1) [] more))) says
          ∙ ap (λ (n : ℕ). with_events events (reading_from names false n (length events) [] more)) (length-push before line);
    }

    -- a line with one
    takes : (event : Event) → line_event names line ≡ Ok (Some event) → length events < most_events → After names (before ++ (line ∷ [])) (events ++ (event ∷ []))
    takes event says few = record {
      apart = apart-push before line after.apart here;
      few = omega (arith, few, length-append events (event ∷ []));
      reads = λ more.
          let room = lt-ltb (length events) most_events few in
          let following = reading_from names false (length before + 1) (length events + 1) [] more in
          let without = reading_from names false (length before + 1) (length events) [] more in
          let taken : after_line (length before + 1) (length events) (line_event names line) without following ≡ with_events (event ∷ []) following = rw (says, room) refl in
          let count : length events + 1 ≡ length (events ++ (event ∷ [])) = omega (arith, length-append events (event ∷ [])) in
          ap (reading_from names false 0 0 []) (lines_text-push before line more) ∙ reads_line more ∙ ap (with_events events) taken ∙ with_events-twice events event following
          ∙ ap (λ (n : ℕ). with_events (events ++ (event ∷ [])) (reading_from names false n (length events + 1) [] more)) (length-push before line)
          ∙ ap (λ (n : ℕ). with_events (events ++ (event ∷ [])) (reading_from names false (length (before ++ (line ∷ []))) n [] more)) count;
    }

    module _ (kind : TextKind) (judged : (without following : Reading) → after_line (length before + 1) (length events) (line_event names line) without following ≡ fault_at kind (length before + 1)) where
      fault : TextFault
      fault = record { kind = kind; line = length before + 1 }

      -- a line with a fault
      reads_fault : (more : List ℕ) → reading_from names false 0 0 [] (lines_text before ++ (line ++ (10 ∷ more))) ≡ record { events = events; fault = Some (record { kind = kind; line = length before + 1 }) }
      reads_fault more = reads_line more ∙ ap (with_events events) (judged _ _) ∙ with_fault events kind (length before + 1)

      report : (more : List ℕ) → length (lines_text before ++ (line ++ (10 ∷ more))) ≤ most_bytes
          → reading_of names (lines_text before ++ (line ++ (10 ∷ more))) ≡ record { events = events; fault = Some (record { kind = kind; line = length before + 1 }) }
      unfolding reading_of
      report more fits = let short = le-ltb most_bytes (length (lines_text before ++ (line ++ (10 ∷ more)))) fits in rw short (reads_fault more)

      stops : IsFaultOfLine names events line kind → (text rest : List ℕ) → text ≡ lines_text before ++ (line ++ (10 ∷ rest)) → length text ≤ most_bytes → Found names text (record { kind = kind; line = length before + 1 })
      stops is text rest parts fits =
          let long : length text ≡ length (lines_text before ++ (line ++ (10 ∷ rest))) = ap length parts in
          record {
            events = events;
            reads = ap (reading_from names false 0 0 []) parts ∙ reads_fault rest;
            stands = inl (record {
              before = before;
              line = line;
              rest = rest;
              parts = parts;
              apart = apart-cons before line after.apart here;
              number = refl;
              kind = is;
              spelled = spelled (omega (arith, fits, long, length-append (lines_text before) (line ++ (10 ∷ rest))));
              never = λ more others s. no_fault events others (record { kind = kind; line = length before + 1 }) (sym (reading_of-spelled names _ others valid s) ∙ report more s.short);
              report = report;
            });
          }

  -- the end of the text
  ends : (text last : List ℕ) (fault : TextFault) → list_all (λ b. not (eqb b 10)) last ≡ true → text ≡ lines_text before ++ last → length text ≤ most_bytes
      → (reading_from names false (length before) (length events) [] last).fault ≡ Some fault → Found names text fault
  ends text last fault here parts fits e =
      let read : reading_from names false (length before) (length events) [] last ≡ cond (is_skipped last) (faultless []) (fault_at CutShort (length before + 1)) =
      reading_from-last names false (length before) (length events) last (no_feed last here) in
      by (is_skipped last) refl read
    where
      by : (skipped : Bool) → is_skipped last ≡ skipped → reading_from names false (length before) (length events) [] last ≡ cond skipped (faultless []) (fault_at CutShort (length before + 1)) → Found names text fault
      by true is read = let bad = sym (ap (λ (r : Reading). r.fault) read) ∙ e in absurd cc
      by false is read =
          let same : record { kind = CutShort; line = length before + 1 } ≡ fault = same_fault (record { kind = CutShort; line = length before + 1 }) fault (sym (ap (λ (r : Reading). r.fault) read) ∙ e) in
          let long : length text ≡ length (lines_text before ++ last) = ap length parts in
          record {
            events = events;
            reads = ap (reading_from names false 0 0 []) parts ∙ after.reads last ∙ ap (with_events events) read ∙ with_fault events CutShort (length before + 1)
                ∙ ap (λ (f : TextFault). record { events = events; fault = Some f }) same;
            stands = inr (record {
              before = before;
              last = last;
              parts = parts;
              apart = apart-cons before last after.apart here;
              is = sym same;
              spelled = spelled (omega (arith, fits, long, length-append (lines_text before) last));
              unended = λ rest. false≢true (sym is ∙ rest_read last rest);
            });
          }

-- what is found after these lines, where the others are left
abbrev Following : NameLists → List ℕ → TextFault → List (List ℕ) → Type 0
Following names text fault lines =
    (before : List (List ℕ)) (events : List Event) → After names before events → text ≡ lines_text before ++ join_with_byte 10 lines
    → (reading_from names false (length before) (length events) [] (join_with_byte 10 lines)).fault ≡ Some fault → Found names text fault

module _ (names : NameLists) (valid : AreValid names) (text : List ℕ) (fault : TextFault) (fits : length text ≤ most_bytes) where
  module _ (line next : List ℕ) (lines : List (List ℕ)) (here : list_all (λ b. not (eqb b 10)) line ≡ true) (more : Following names text fault (next ∷ lines))
      (before : List (List ℕ)) (events : List Event) (after : After names before events) (parts : text ≡ lines_text before ++ (line ++ (10 ∷ join_with_byte 10 (next ∷ lines))))
      (e : (after_line (length before + 1) (length events) (line_event names line) (reading_from names false (length before + 1) (length events) [] (join_with_byte 10 (next ∷ lines)))
      (reading_from names false (length before + 1) (length events + 1) [] (join_with_byte 10 (next ∷ lines)))).fault ≡ Some fault) where
    pushed : text ≡ lines_text (before ++ (line ∷ [])) ++ join_with_byte 10 (next ∷ lines)
    pushed = parts ∙ sym (lines_text-push before line (join_with_byte 10 (next ∷ lines)))

    stopped : (kind : TextKind) → IsFaultOfLine names events line kind → ((without following : Reading) → after_line (length before + 1) (length events) (line_event names line) without following ≡ fault_at kind (length before + 1)) → Found names text fault
    stopped kind is judged =
        let same : record { kind = kind; line = length before + 1 } ≡ fault = same_fault (record { kind = kind; line = length before + 1 }) fault (sym (ap (λ (r : Reading). r.fault) (judged _ _)) ∙ e) in
        subst (Found names text) same (stops names valid before events after line here kind judged is text (join_with_byte 10 (next ∷ lines)) parts fits)

    one_event : (event : Event) (room : Bool) → ltb (length events) most_events ≡ room → line_event names line ≡ Ok (Some event) → Found names text fault
    one_event event false room says =
        let full : length events ≡ most_events = omega (arith, after.few, ltb-false (length events) most_events room) in
        stopped TooMany (inr (refl, full, (event, line_spelled names line (Some event) says))) (λ without following. rw (says, room) refl)
    one_event event true room says =
        let e2 = rw (says, room) at e in
        let count : length events + 1 ≡ length (events ++ (event ∷ [])) = omega (arith, length-append events (event ∷ [])) in
        more (before ++ (line ∷ [])) (events ++ (event ∷ [])) (takes names valid before events after line here event says (ltb-true (length events) most_events room)) pushed
        (ap (λ (n : ℕ). (reading_from names false n (length (events ++ (event ∷ []))) [] (join_with_byte 10 (next ∷ lines))).fault) (sym (length-push before line))
        ∙ ap (λ (n : ℕ). (reading_from names false (length before + 1) n [] (join_with_byte 10 (next ∷ lines))).fault) (sym count) ∙ e2)

    one_line : (said : Result (Option Event) TextKind) → line_event names line ≡ said → Found names text fault
    one_line (Ok None) says =
        let e2 = rw says at e in
        more (before ++ (line ∷ [])) events (skips names valid before events after line here says) pushed
        (ap (λ (n : ℕ). (reading_from names false n (length events) [] (join_with_byte 10 (next ∷ lines))).fault) (sym (length-push before line)) ∙ e2)
    one_line (Ok (Some event)) says = one_event event (ltb (length events) most_events) refl says
    one_line (Err kind) says = stopped kind (inl (event_fault names line kind valid says)) (λ without following. rw says refl)

  find : (lines : List (List ℕ)) → 0 < length lines → AreApart lines → Following names text fault lines
  find [] some apart before events after parts e = absurd (omega (arith, some))
  find (last ∷ []) some apart before events after parts e =
      ends names valid before events after text last fault (and_parts (list_all (λ b. not (eqb b 10)) last) true apart).0 parts fits e
  find (line ∷ next ∷ lines) some apart before events after parts e =
      let p = and_parts (list_all (λ b. not (eqb b 10)) line) (list_all (list_all (λ b. not (eqb b 10))) (next ∷ lines)) apart in
      one_line line next lines p.0 (find (next ∷ lines) (omega arith) p.1) before events after parts
      (sym (ap (λ (r : Reading). r.fault) (reading_from-cut names false (length before) (length events) [] line (join_with_byte 10 (next ∷ lines)) (no_feed line p.0))) ∙ e)
      (line_event names line) refl

-- ---- whole texts

at_start : (names : NameLists) → After names [] []
at_start names = record { apart = refl; few = omega arith; reads = λ more. refl }

pub first_fault : (names : NameLists) (text : List ℕ) (fault : TextFault) → AreValid names → (reading_of names text).fault ≡ Some fault → FirstFault names text (reading_of names text).events fault
unfolding reading_of
first_fault names text fault valid e = by (ltb most_bytes (length text)) refl
  where
    by : (long : Bool) → ltb most_bytes (length text) ≡ long → FirstFault names text (reading_of names text).events fault
    by true long =
        let e2 = rw long at e in
        rw long (inl (ltb-true most_bytes (length text) long, refl, sym (same_fault (record { kind = TooMany; line = 0 }) fault e2)))
    by false long =
        let e2 = rw long at e in
        let fits = ltb-false most_bytes (length text) long in
        let joined : text ≡ join_with_byte 10 (pieces_of 10 text) = sym (join-pieces_of 10 text) in
        let found = find names valid text fault fits (pieces_of 10 text) (some-pieces_of 10 text) (apart-pieces_of 10 text) [] [] (at_start names) joined
        (ap (λ (t : List ℕ). (reading_from names false 0 0 [] t).fault) (sym joined) ∙ e2) in
        let same : found.events ≡ (reading_from names false 0 0 [] text).events = sym (ap (λ (r : Reading). r.events) found.reads) in
        rw long (inr (fits, subst (λ (es : List Event). FaultInLine names text es fault ⊎ FaultAtEnd names text es fault) same found.stands))
