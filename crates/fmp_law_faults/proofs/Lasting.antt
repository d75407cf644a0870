-- The first fault of a question of what stays for ever is that of the table.
use Rattle.std.proofs.Common.{◌≡◌, ◌≢◌, ℕ, ◌+◌, ◌≤◌, eqb, leb, Bool, true, false, not, ◌&&◌, ◌||◌, cond, List, [], ◌∷◌, ◌++◌, length, Option, Result, Ok, Err, inl, inr, refl, sym, ap, subst, ◌∙◌, arith, length-append}
use Rattle.std.specs.Prelude.{codes, count_by, sum_by}
use Rattle.std.specs.List.{list_any}
use Rattle.std.specs.Str.{bytes_eq}
use Rattle.std.proofs.lemmas.Bool.{and_parts, cases_Bool, eqb-false, eqb-true, false≢true, leb-false, leb-true, ne_eqb}
use Rattle.std.proofs.Math.Bool.{and-false}
use Rattle.std.proofs.lemmas.List.{nil_from_length}
use Rattle.std.proofs.lemmas.List.Sums.{sum_by-append}
use Rattle.fmp_bytes.specs.Bytes.{pieces_of, space}
use Rattle.fmp_bytes.proofs.Cutting.{join-pieces_of}
use Rattle.fmp_bytes.proofs.Words.{is_word, not_word}
use Rattle.fmp_names.specs.Names.{NameLists}
use Rattle.fmp_search_pattern.specs.Lasting.{Lasting}
use Rattle.fmp_search_pattern.specs.declared.spot.Spot.TheVariants.{Front}
use Rattle.fmp_search_pattern.specs.Words.{is_printed}
use Rattle.fmp_search_question.specs.declared.fault.QuestionFault.{QuestionFault}
use Rattle.fmp_search_question.specs.declared.fault.QuestionFault.TheVariants.{BadForm, TooLong, UnknownName}
use Rattle.fmp_search_question.specs.declared.stage.Stage.{Stage}
use Rattle.fmp_search_question.specs.declared.stage.Stage.TheVariants as stage
use Rattle.fmp_search_question.specs.Lasting.{Parts, after_word, are_tasks, before_ever, begins_so, ended, with_part, in_part, in_stage, is_elsewhere, is_fresh, lasting_in, no_parts, with_draft, written_in}
use Rattle.fmp_search_question.specs.Reading as reading
use Rattle.fmp_search_question.specs.Resolved.{resolved_lasting}
use Rattle.fmp_search_question.specs.Waiting.{comma, waits_but}
use Rattle.fmp_search_question.specs.WordByWord.{result_then}
use Rattle.fmp_law_faults.specs.LastingFaults.{DeadlockFault, IsFaultForEver, LastingEndFault, LastingWordFault, PartFault, PlaceFault, foreign_words, is_ever, is_or, may_be_whole, part_of, parts_in}
use Rattle.fmp_law_faults.specs.QuestionFaults.{FaultAfter}
use Rattle.fmp_law_faults.specs.Words.{end_with, is_then, pattern_of, step_of}
use Rattle.fmp_law_faults.proofs.Drafts.{IsAfter, nothing_is_read}
use Rattle.fmp_law_faults.proofs.FirstFaults.{AllAgree, EndAgrees, WordAgrees, all_agree, all_left, one_first, pair_is}
use Rattle.fmp_law_faults.proofs.Following.{after_other, after_such, ends_more}
use Rattle.fmp_law_faults.proofs.Parts.{IsPart, Keeps, one_is, word_keeps}
use Rattle.fmp_law_faults.proofs.Patterns.{has_no_end}
use Rattle.fmp_law_faults.proofs.QuestionWords.{Agrees, an_end, empty_text, ended as pattern_ended, no_end, pattern_ends}
use Rattle.fmp_law_faults.proofs.QuestionWordsJudged.{judged}
use Rattle.fmp_law_faults.proofs.Questions.{one_fault as one_word_fault}

-- ---- what was read, by the words

-- within a part
record InPart (names : NameLists) (before : List (List ℕ)) (d : Parts) : Type 0 where
  begins : begins_so before ≡ false
  no_for : end_with (codes "for") before ≡ false
  no_ever : end_with (codes "ever") before ≡ false
  stage_is : d.stage ≡ stage.Words
  part : IsAfter names (part_of before) d.draft
  one : IsPart d.draft
  count : length d.lasting ≡ count_by is_ever before
  fresh : (is_fresh d && eqb (length d.lasting) 0) ≡ eqb (length before) 0

-- after a pattern and `for`
record AfterFor (before : List (List ℕ)) (d : Parts) : Type 0 where
  begins : begins_so before ≡ false
  is_for : end_with (codes "for") before ≡ true
  no_ever : end_with (codes "ever") before ≡ false
  stage_is : d.stage ≡ stage.For
  one : IsPart d.draft
  negated : d.draft.negated ≡ false
  pattern : d.draft.pattern ≡ []
  place : d.draft.spot ≡ Front
  count : length d.lasting ≡ count_by is_ever before

record AfterEver (before : List (List ℕ)) (d : Parts) : Type 0 where
  begins : begins_so before ≡ false
  no_for : end_with (codes "for") before ≡ false
  is_one : end_with (codes "ever") before ≡ true
  stage_is : d.stage ≡ stage.Ever
  draft : d.draft ≡ reading.nothing_read
  count : length d.lasting ≡ count_by is_ever before
  some : 1 ≤ length d.lasting

data IsLastingAfter (names : NameLists) (before : List (List ℕ)) (d : Parts) : Type 0 where
  part : InPart names before d → IsLastingAfter names before d
  for : AfterFor before d → IsLastingAfter names before d
  ever : AfterEver before d → IsLastingAfter names before d
  deadlock : before ≡ codes "deadlock" ∷ [] → d.stage ≡ stage.Deadlock → d.lasting ≡ waits_but names [] → IsLastingAfter names before d
  but : before ≡ codes "deadlock" ∷ codes "but" ∷ [] → d.stage ≡ stage.But → IsLastingAfter names before d
  named : (list : List ℕ) → before ≡ codes "deadlock" ∷ codes "but" ∷ list ∷ [] → d.stage ≡ stage.Named → d.lasting ≡ waits_but names (pieces_of comma list) → IsLastingAfter names before d

-- ---- words with one more

begins_after : (own : List ℕ) (before : List (List ℕ)) (word : List ℕ) → end_with own before ≡ true → begins_so (before ++ word ∷ []) ≡ begins_so before
begins_after own [] word e = absurd (false≢true e)
begins_after own (first ∷ before) word e = refl

begins_more : (before : List (List ℕ)) (word : List ℕ) → begins_so before ≡ false → (before ≡ [] → bytes_eq word (codes "deadlock") ≡ false) → begins_so (before ++ word ∷ []) ≡ false
begins_more [] word e other = other refl
begins_more (first ∷ before) word e other = e

some_more : (before : List (List ℕ)) (word : List ℕ) → eqb (length (before ++ word ∷ [])) 0 ≡ false
some_more before word = ne_eqb (length (before ++ word ∷ [])) 0 (λ e. omega (arith, e, length-append before (word ∷ [])))

count_ever : (before : List (List ℕ)) → count_by is_ever (before ++ codes "ever" ∷ []) ≡ count_by is_ever before + 1
count_ever before = omega (arith, sum_by-append (λ x. cond (is_ever x) 1 0) before (codes "ever" ∷ []))

count_other : (before : List (List ℕ)) (word : List ℕ) → is_ever word ≡ false → count_by is_ever (before ++ word ∷ []) ≡ count_by is_ever before
count_other before word other =
    let one : sum_by (λ x. cond (is_ever x) 1 0) (word ∷ []) ≡ 0 = rw other (omega arith) in
    omega (arith, sum_by-append (λ x. cond (is_ever x) 1 0) before (word ∷ []), one)

elsewhere_same : (a b c d e : Bool) → ((((a || b) || c) || d) || e) ≡ (a || (b || (c || (d || (e || false)))))
elsewhere_same true b c d e = refl
elsewhere_same false true c d e = refl
elsewhere_same false false true d e = refl
elsewhere_same false false false true e = refl
elsewhere_same false false false false true = refl
elsewhere_same false false false false false = refl

and_assoc : (a b c : Bool) → ((a && b) && c) ≡ (a && (b && c))
and_assoc true b c = refl
and_assoc false b c = refl

-- ---- one word

abbrev Row : NameLists → List (List ℕ) → List ℕ → Result Parts QuestionFault → Type 0
Row names before word r = WordAgrees (LastingWordFault names) (IsLastingAfter names) before word r

module _ (names : NameLists) (word : List ℕ) (printed : is_printed word ≡ true) where
  -- the rows of the place are those that are left
  none_of : (before : List (List ℕ)) → ((fault : QuestionFault) → ¬ (PlaceFault names before word fault (begins_so before) (end_with (codes "for") before) (end_with (codes "ever") before)))
      → (fault : QuestionFault) → ¬ (LastingWordFault names before word fault)
  none_of before none fault (inl a) = false≢true (sym a.1 ∙ printed)
  none_of before none fault (inr a) = none fault a.1

  -- ---- after `for`, `ever` and `deadlock`

  after_for : (before : List (List ℕ)) (d : Parts) (a : AfterFor before d) (is : Bool) → bytes_eq word (codes "ever") ≡ is → Row names before word (cond is (Ok (with_part d)) (Err BadForm))
  after_for before d a false e = let b = a.begins in let c = a.is_for in inr (printed, rw (b, c) (refl, not_word word (codes "ever") e))
  after_for before d a true e =
      let b = a.begins in
      let c = a.is_for in
      let is = is_word word (codes "ever") e in
      let p = a.one in
      let s = p.steps in
      let t = p.times in
      let m = p.moment in
      let ps = p.parts in
      let n = a.negated in
      let pattern = a.pattern in
      let place = a.place in
      let blank : record d.draft { items = [] } ≡ reading.nothing_read = rw (s, t, m, ps, n, pattern, place) refl in (
        none_of before (rw (b, c) (λ fault f. f.1 is)),
        subst (λ (w : List ℕ). IsLastingAfter names (before ++ w ∷ []) (with_part d)) (sym is) (ever (record {
          begins = begins_after (codes "for") before (codes "ever") c ∙ b;
          no_for = ends_more (codes "for") before (codes "ever");
          is_one = ends_more (codes "ever") before (codes "ever");
          stage_is = refl;
          draft = blank;
          count = length-append d.lasting ((d.draft.items ∷ []) ∷ []) ∙ omega (arith, a.count, count_ever before);
          some = omega (arith, length-append d.lasting ((d.draft.items ∷ []) ∷ []));
        })),
      )

  after_ever : (before : List (List ℕ)) (d : Parts) (a : AfterEver before d) (is : Bool) → bytes_eq word (codes "or") ≡ is → Row names before word (cond is (Ok (record d { stage = stage.Words })) (Err BadForm))
  after_ever before d a false e = let b = a.begins in let c = a.no_for in let f = a.is_one in inr (printed, rw (b, c, f) (refl, not_word word (codes "or") e))
  after_ever before d a true e =
      let b = a.begins in
      let c = a.no_for in
      let f = a.is_one in
      let is = is_word word (codes "or") e in
      let none : part_of (before ++ codes "or" ∷ []) ≡ [] = after_such is_or before (codes "or") refl in
      let some : eqb (length d.lasting) 0 ≡ false = ne_eqb (length d.lasting) 0 (λ e. omega (arith, e, a.some)) in
      let longer = some_more before (codes "or") in (
        none_of before (rw (b, c, f) (λ fault g. g.1 is)),
        subst (λ (w : List ℕ). IsLastingAfter names (before ++ w ∷ []) (record d { stage = stage.Words })) (sym is) (part (record {
          begins = begins_after (codes "ever") before (codes "or") f ∙ b;
          no_for = ends_more (codes "for") before (codes "or");
          no_ever = ends_more (codes "ever") before (codes "or");
          stage_is = refl;
          part = subst (λ (ws : List (List ℕ)). IsAfter names ws d.draft) (sym none) (subst (λ (x : reading.Draft). IsAfter names [] x) (sym a.draft) (nothing_is_read names));
          one = subst (λ (x : reading.Draft). IsPart x) (sym a.draft) (record { steps = refl; times = refl; moment = refl; parts = refl });
          count = a.count ∙ sym (count_other before (codes "or") refl);
          fresh = rw (some, longer) (and-false (is_fresh d));
        })),
      )

  after_deadlock : (d : Parts) → d.lasting ≡ waits_but names [] → (is : Bool) → bytes_eq word (codes "but") ≡ is → Row names (codes "deadlock" ∷ []) word (cond is (Ok (record d { stage = stage.But })) (Err BadForm))
  after_deadlock d l false e = inr (printed, (refl, not_word word (codes "but") e))
  after_deadlock d l true e =
      let is = is_word word (codes "but") e in (
        none_of (codes "deadlock" ∷ []) (λ fault f. f.1 is),
        but (ap (λ (w : List ℕ). codes "deadlock" ∷ w ∷ []) is) refl,
      )

  after_but : (d : Parts) (tasks none : Bool) → are_tasks names word ≡ tasks → eqb (length (waits_but names (pieces_of comma word))) 0 ≡ none
      → Row names (codes "deadlock" ∷ codes "but" ∷ []) word (cond tasks (cond none (Err BadForm) (Ok (record d { lasting = waits_but names (pieces_of comma word); stage = stage.Named }))) (Err UnknownName))
  after_but d false none a b = inr (printed, inl (refl, a))
  after_but d true true a b = inr (printed, inr (a, refl, nil_from_length (waits_but names (pieces_of comma word)) (eqb-true (length (waits_but names (pieces_of comma word))) 0 b)))
  after_but d true false a b = (
    none_of (codes "deadlock" ∷ codes "but" ∷ []) (λ fault f. elim f [
      | inl other ↦ false≢true (sym other.1 ∙ a)
      | inr other ↦ eqb-false (length (waits_but names (pieces_of comma word))) 0 b (ap length other.2)
    ]),
    named word refl refl refl,
  )

  -- ---- in a part

  module _ (before : List (List ℕ)) (d : Parts) (p : InPart names before d) where
    -- the rows are those of the part
    part_fault : (fault : QuestionFault) → (before ≡ [] → bytes_eq word (codes "deadlock") ≡ false) → PartFault names (part_of before) word fault → LastingWordFault names before word fault
    part_fault fault other f =
        let a = p.begins in
        let b = p.no_for in
        let c = p.no_ever in
        inr (printed, rw (a, b, c) (begins_more before word p.begins other, f))

    none_in : ((fault : QuestionFault) → begins_so (before ++ word ∷ []) ≡ false → ¬ (PartFault names (part_of before) word fault)) → (fault : QuestionFault) → ¬ (LastingWordFault names before word fault)
    none_in none =
        let a = p.begins in
        let b = p.no_for in
        let c = p.no_ever in
        none_of before (rw (a, b, c) (λ fault f. none fault f.0 f.1))

    for_judged : word ≡ codes "for" → (o : Option reading.Draft) → reading.with_pattern d.draft ≡ o → Row names before word (before_ever d o)
    for_judged is o e =
        elim (pattern_ends names (part_of before) d.draft p.part o e) [
          | inl n ↦ let none = n.1 in rw none (part_fault BadForm (λ _. ap (λ (w : List ℕ). bytes_eq w (codes "deadlock")) is)
              (inr (ap (λ (w : List ℕ). list_any (bytes_eq w) foreign_words) is, inl (is, refl, no_end names (part_of before) d.draft p.part n.0))))
          | inr n ↦ let some = n.1 in rw some (
            none_in (some_end n.0),
            subst (λ (w : List ℕ). IsLastingAfter names (before ++ w ∷ []) after) (sym is) (for (record {
              begins = begins_more before (codes "for") p.begins (λ _. refl);
              is_for = ends_more (codes "for") before (codes "for");
              no_ever = ends_more (codes "ever") before (codes "for");
              stage_is = refl;
              one = record { steps = p.one.steps; times = p.one.times; moment = p.one.moment; parts = p.one.parts };
              negated = refl;
              pattern = refl;
              place = refl;
              count = p.count ∙ sym (count_other before (codes "for") refl);
            })),
          )
        ] where
          after : Parts
          after = record d { draft = pattern_ended names (part_of before) d.draft p.part; stage = stage.For }

          some_end : has_no_end d.draft.pattern d.draft.spot ≡ false → (fault : QuestionFault) → begins_so (before ++ word ∷ []) ≡ false → ¬ (PartFault names (part_of before) word fault)
          some_end ends fault begins f =
              elim f [
                | inl a ↦ false≢true (sym (ap (λ (w : List ℕ). list_any (bytes_eq w) foreign_words) is) ∙ a.1)
                | inr a ↦ elim a.1 [ inl b ↦ an_end names (part_of before) d.draft p.part ends b.2 | inr b ↦ b.0 is ]
              ]

    -- words of a part do not leave it as it was at its beginning
    not_fresh : (e : reading.Draft) → IsAfter names (part_of before ++ word ∷ []) e → IsPart e → is_then word ≡ false → (not e.negated && eqb (length e.items) 0 && eqb (length e.pattern) 0) ≡ false
    not_fresh e s one other = go e.negated (eqb (length e.items) 0) (eqb (length e.pattern) 0) refl refl refl where
      go : (negated none empty : Bool) → e.negated ≡ negated → eqb (length e.items) 0 ≡ none → eqb (length e.pattern) 0 ≡ empty → (not negated && none && empty) ≡ false
      go true none empty a b c = refl
      go false false empty a b c = refl
      go false true false a b c = refl
      go false true true a b c =
          let st = one.steps in
          let t = one.times in
          let m = one.moment in
          let ps = one.parts in
          let begun : reading.has_begun e ≡ false = rw (t, m, ps, a, b) refl in
          let alone = s.alone (sym s.begun ∙ begun) in
          let nothing = empty_text (pattern_of (part_of before ++ word ∷ [])) (sym (ap (λ (x : List ℕ). eqb (length x) 0) s.pattern) ∙ c) in
          let step = after_other is_then (part_of before) word other in
          let both : step_of (part_of before) ++ word ∷ [] ≡ [] = sym step ∙ sym alone ∙ nothing in
          absurd (omega (arith, ap length both, length-append (step_of (part_of before)) (word ∷ [])))

    word_judged : list_any (bytes_eq word) foreign_words ≡ false → word ≢ codes "for" → bytes_eq word (codes "for") ≡ false → (before ≡ [] → bytes_eq word (codes "deadlock") ≡ false)
        → (r : Result reading.Draft QuestionFault) → Agrees names (part_of before) word r → Keeps r → Row names before word (with_draft d r)
    word_judged own no_for not_for other (Err fault) agrees keeps = part_fault fault other (inr (own, inr (no_for, agrees)))
    word_judged own no_for not_for other (Ok e) agrees keeps =
        let o = one_is word own in
        let same : part_of (before ++ word ∷ []) ≡ part_of before ++ word ∷ [] = after_other is_or before word o.no_or in
        let longer = some_more before word in
        let fresh = not_fresh e agrees.1 keeps o.no_then in (
          none_in (λ fault begins f. elim f [
            | inl a ↦ false≢true (sym own ∙ a.1)
            | inr a ↦ elim a.1 [ inl b ↦ no_for b.0 | inr b ↦ agrees.0 fault b.1 ]
          ]),
          part (record {
            begins = begins_more before word p.begins other;
            no_for = ends_more (codes "for") before word ∙ not_for;
            no_ever = ends_more (codes "ever") before word ∙ o.no_ever;
            stage_is = p.stage_is;
            part = subst (λ (ws : List (List ℕ)). IsAfter names ws e) (sym same) agrees.1;
            one = keeps;
            count = p.count ∙ sym (count_other before word o.no_ever);
            fresh = rw (fresh, longer) refl;
          }),
        )

    foreign_is : is_elsewhere word ≡ list_any (bytes_eq word) foreign_words
    foreign_is =
        elsewhere_same (bytes_eq word (codes "then")) (bytes_eq word (codes "without")) (bytes_eq word (codes "times")) (bytes_eq word (codes "or")) (bytes_eq word (codes "ever"))

    -- whether the question begins with `deadlock` here
    opens : (bytes_eq word (codes "deadlock") && is_fresh d && eqb (length d.lasting) 0) ≡ (bytes_eq word (codes "deadlock") && eqb (length before) 0)
    opens = and_assoc (bytes_eq word (codes "deadlock")) (is_fresh d) (eqb (length d.lasting) 0) ∙ ap (λ (b : Bool). bytes_eq word (codes "deadlock") && b) p.fresh

    foreign_no_deadlock : list_any (bytes_eq word) foreign_words ≡ true → bytes_eq word (codes "deadlock") ≡ false
    foreign_no_deadlock own =
        elim (cases_Bool (bytes_eq word (codes "deadlock"))) [
          | inl t ↦ absurd (false≢true (ap (λ (w : List ℕ). list_any (bytes_eq w) foreign_words) (sym (is_word word (codes "deadlock") t)) ∙ own))
          | inr f ↦ f
        ]

    later : (bytes_eq word (codes "deadlock") && eqb (length before) 0) ≡ false → before ≡ [] → bytes_eq word (codes "deadlock") ≡ false
    later none empty =
        elim (cases_Bool (bytes_eq word (codes "deadlock"))) [
          | inl t ↦ let zero_so : eqb (length before) 0 ≡ true = ap (λ (ws : List (List ℕ)). eqb (length ws) 0) empty in absurd (false≢true (sym none ∙ rw (t, zero_so) refl))
          | inr f ↦ f
        ]

    opened : (bytes_eq word (codes "deadlock") && eqb (length before) 0) ≡ true → Row names before word (Ok (record d { lasting = waits_but names []; stage = stage.Deadlock }))
    opened so =
        let both = and_parts (bytes_eq word (codes "deadlock")) (eqb (length before) 0) so in
        let is = is_word word (codes "deadlock") both.0 in
        let empty = nil_from_length before (eqb-true (length before) 0 both.1) in
        let whole : before ++ word ∷ [] ≡ codes "deadlock" ∷ [] = ap (λ (ws : List (List ℕ)). ws ++ word ∷ []) empty ∙ ap (λ (w : List ℕ). w ∷ []) is in (
          none_in (λ fault begins f. false≢true (sym begins ∙ ap begins_so whole)),
          deadlock whole refl refl,
        )

    part_judged : Row names before word (in_part names d word)
    unfolding in_part
    part_judged = by (bytes_eq word (codes "for")) (is_elsewhere word) (bytes_eq word (codes "deadlock") && is_fresh d && eqb (length d.lasting) 0) refl refl refl where
      by : (ends foreign begins : Bool) → bytes_eq word (codes "for") ≡ ends → is_elsewhere word ≡ foreign → (bytes_eq word (codes "deadlock") && is_fresh d && eqb (length d.lasting) 0) ≡ begins
          → Row names before word (cond ends (before_ever d (reading.with_pattern d.draft)) (cond foreign (Err BadForm) (cond begins (Ok (record d { lasting = waits_but names []; stage = stage.Deadlock })) (with_draft d (reading.after_word names d.draft word)))))
      by true foreign begins a b c = for_judged (is_word word (codes "for") a) (reading.with_pattern d.draft) refl
      by false true begins a b c = let own = sym foreign_is ∙ b in part_fault BadForm (λ _. foreign_no_deadlock own) (inl (refl, own))
      by false false true a b c = opened (sym opens ∙ c)
      by false false false a b c =
          let own = sym foreign_is ∙ b in
          word_judged own (not_word word (codes "for") a) a (later (sym opens ∙ c)) (reading.after_word names d.draft word) (judged names (part_of before) d.draft p.part word) (word_keeps names d.draft p.one word own)

  -- ---- each stage

  at_stage : (before : List (List ℕ)) (d : Parts) (to : Stage) → d.stage ≡ to → Row names before word (in_stage names d word to) → Row names before word (in_stage names d word d.stage)
  at_stage before d to at row_is = subst (λ (x : Stage). Row names before word (in_stage names d word x)) (sym at) row_is

  stage_judged : (before : List (List ℕ)) (d : Parts) → IsLastingAfter names before d → Row names before word (in_stage names d word d.stage)
  stage_judged before d (part p) = at_stage before d stage.Words p.stage_is (part_judged before d p)
  stage_judged before d (for a) = at_stage before d stage.For a.stage_is (after_for before d a (bytes_eq word (codes "ever")) refl)
  stage_judged before d (ever a) = at_stage before d stage.Ever a.stage_is (after_ever before d a (bytes_eq word (codes "or")) refl)
  stage_judged before d (deadlock is at l) =
      at_stage before d stage.Deadlock at (subst (λ (ws : List (List ℕ)). Row names ws word (in_stage names d word stage.Deadlock)) (sym is) (after_deadlock d l (bytes_eq word (codes "but")) refl))
  stage_judged before d (but is at) =
      at_stage before d stage.But at
      (subst (λ (ws : List (List ℕ)). Row names ws word (in_stage names d word stage.But)) (sym is) (after_but d (are_tasks names word) (eqb (length (waits_but names (pieces_of comma word))) 0) refl refl))
  stage_judged before d (named list is at l) = at_stage before d stage.Named at (subst (λ (ws : List (List ℕ)). Row names ws word (Err BadForm)) (sym is) (inr (printed, refl)))

lasting_judged : (names : NameLists) (before : List (List ℕ)) (d : Parts) (word : List ℕ) → IsLastingAfter names before d → Row names before word (after_word names d word)
unfolding after_word
lasting_judged names before d word s =
    elim (cases_Bool (is_printed word)) [
      | inl t ↦ rw t (stage_judged names word t before d s)
      | inr not_so ↦ rw not_so (inl (refl, not_so))
    ]

-- ---- the end

module _ (names : NameLists) (bytes : ℕ) where
  abbrev EndRow : List (List ℕ) → Result (List Lasting) (QuestionFault × ℕ) → Type 0
  EndRow words r = EndAgrees (LastingEndFault names) bytes words r

  not_whole : (words : List (List ℕ)) → may_be_whole words ≡ false → EndRow words (Err (BadForm, bytes))
  not_whole words none = (inl (refl, none), refl)

  whole : (words : List (List ℕ)) (lasting : List Lasting) → may_be_whole words ≡ true → length lasting ≡ parts_in names words → (few : Bool) → leb (length lasting) 64 ≡ few
      → EndRow words (cond few (Ok lasting) (Err (TooLong, bytes)))
  whole words lasting so many true e = λ fault f.
      elim f [
        | inl none ↦ false≢true (sym none.1 ∙ so)
        | inr long ↦ let more = long.2 in omega (arith, leb-true (length lasting) 64 e, many, more)
      ]
  whole words lasting so many false e = (inr (so, refl, omega (arith, leb-false (length lasting) 64 e, many)), refl)

  end_judged : (words : List (List ℕ)) (d : Parts) → IsLastingAfter names words d → EndRow words (ended bytes d)
  end_judged words d (part p) = let at = p.stage_is in let a = p.begins in let b = p.no_ever in rw at (not_whole words (rw (a, b) refl))
  end_judged words d (for a) = let at = a.stage_is in let b = a.begins in let c = a.no_ever in rw at (not_whole words (rw (b, c) refl))
  end_judged words d (ever a) =
      let at = a.stage_is in
      let b = a.begins in
      let c = a.is_one in
      rw at (whole words d.lasting (rw (b, c) refl) (rw b a.count) (leb (length d.lasting) 64) refl)
  end_judged words d (deadlock is at l) =
      rw at (whole words d.lasting (ap may_be_whole is) (ap length l ∙ sym (ap (parts_in names) is)) (leb (length d.lasting) 64) refl)
  end_judged words d (but is at) = rw at (not_whole words (ap may_be_whole is))
  end_judged words d (named list is at l) =
      rw at (whole words d.lasting (ap may_be_whole is) (ap length l ∙ sym (ap (parts_in names) is)) (leb (length d.lasting) 64) refl)

-- ---- one fault

one_part_fault : (names : NameLists) (ws : List (List ℕ)) (word : List ℕ) (f g : QuestionFault) → PartFault names ws word f → PartFault names ws word g → f ≡ g
one_part_fault names ws word f g (inl a) (inl b) = a.0 ∙ sym b.0
one_part_fault names ws word f g (inl a) (inr b) = absurd (false≢true (sym b.0 ∙ a.1))
one_part_fault names ws word f g (inr a) (inl b) = absurd (false≢true (sym a.0 ∙ b.1))
one_part_fault names ws word f g (inr a) (inr b) =
    elim a.1 [
      | inl x ↦ elim b.1 [ inl y ↦ x.1 ∙ sym y.1 | inr y ↦ absurd (y.0 x.0) ]
      | inr x ↦ elim b.1 [ inl y ↦ absurd (x.0 y.0) | inr y ↦ one_word_fault names ws word f g x.1 y.1 ]
    ]

one_deadlock_fault : (names : NameLists) (before : List (List ℕ)) (word : List ℕ) (f g : QuestionFault) → DeadlockFault names before word f → DeadlockFault names before word g → f ≡ g
one_deadlock_fault names [] word f g a b = a ∙ sym b
one_deadlock_fault names (x ∷ []) word f g a b = a.0 ∙ sym b.0
one_deadlock_fault names (x ∷ y ∷ []) word f g (inl a) (inl b) = a.0 ∙ sym b.0
one_deadlock_fault names (x ∷ y ∷ []) word f g (inl a) (inr b) = absurd (false≢true (sym a.1 ∙ b.0))
one_deadlock_fault names (x ∷ y ∷ []) word f g (inr a) (inl b) = absurd (false≢true (sym b.1 ∙ a.0))
one_deadlock_fault names (x ∷ y ∷ []) word f g (inr a) (inr b) = a.1 ∙ sym b.1
one_deadlock_fault names (x ∷ y ∷ z ∷ before) word f g a b = a ∙ sym b

one_place_fault : (names : NameLists) (before : List (List ℕ)) (word : List ℕ) (f g : QuestionFault) (x y z : Bool) → PlaceFault names before word f x y z → PlaceFault names before word g x y z → f ≡ g
one_place_fault names before word f g true y z a b = one_deadlock_fault names before word f g a b
one_place_fault names before word f g false true z a b = a.0 ∙ sym b.0
one_place_fault names before word f g false false true a b = a.0 ∙ sym b.0
one_place_fault names before word f g false false false a b = one_part_fault names (part_of before) word f g a.1 b.1

one_lasting_fault : (names : NameLists) (before : List (List ℕ)) (word : List ℕ) (f g : QuestionFault) → LastingWordFault names before word f → LastingWordFault names before word g → f ≡ g
one_lasting_fault names before word f g (inl a) (inl b) = a.0 ∙ sym b.0
one_lasting_fault names before word f g (inl a) (inr b) = absurd (false≢true (sym a.1 ∙ b.0))
one_lasting_fault names before word f g (inr a) (inl b) = absurd (false≢true (sym b.1 ∙ a.0))
one_lasting_fault names before word f g (inr a) (inr b) =
    one_place_fault names before word f g (begins_so before) (end_with (codes "for") before) (end_with (codes "ever") before) a.1 b.1

one_lasting_end : (names : NameLists) (words : List (List ℕ)) (f g : QuestionFault) → LastingEndFault names words f → LastingEndFault names words g → f ≡ g
one_lasting_end names words f g (inl a) (inl b) = a.0 ∙ sym b.0
one_lasting_end names words f g (inl a) (inr b) = absurd (false≢true (sym a.1 ∙ b.0))
one_lasting_end names words f g (inr a) (inl b) = absurd (false≢true (sym b.1 ∙ a.0))
one_lasting_end names words f g (inr a) (inr b) = a.1 ∙ sym b.1

-- ---- whole texts

nothing_lasts : (names : NameLists) → IsLastingAfter names [] no_parts
nothing_lasts names =
    part (record {
      begins = refl;
      no_for = refl;
      no_ever = refl;
      stage_is = refl;
      part = nothing_is_read names;
      one = record { steps = refl; times = refl; moment = refl; parts = refl };
      count = refl;
      fresh = refl;
    })

module _ (names : NameLists) (text : List ℕ) where
  abbrev Agree : Result (List Lasting) (QuestionFault × ℕ) → Type 0
  Agree r = AllAgree (LastingWordFault names) (LastingEndFault names) (IsLastingAfter names) (after_word names) (ended (length text)) (length text) [] (pieces_of space text) r

  text_agrees : Agree (written_in names text)
  unfolding written_in
  text_agrees =
      all_agree (LastingWordFault names) (LastingEndFault names) (IsLastingAfter names) (after_word names) (ended (length text)) (length text) (λ before d word s. lasting_judged names before d word s)
      (λ words d s. end_judged names (length text) words d s) [] (pieces_of space text) no_parts (nothing_lasts names) (all_left text (pieces_of space text) (join-pieces_of space text))

  module _ (fault : QuestionFault) (place : ℕ) where
    pub fault_read : lasting_in names text ≡ Err (fault, place) → IsFaultForEver names text fault place
    unfolding lasting_in
    fault_read is = go (written_in names text) text_agrees is where
      go : (r : Result (List Lasting) (QuestionFault × ℕ)) → Agree r → result_then (λ parts. Ok (resolved_lasting names parts)) r ≡ Err (fault, place) → IsFaultForEver names text fault place
      go (Ok parts) agrees e = absurd cc
      go (Err found) agrees e =
          let same : found ≡ (fault, place) = cc in
          subst (λ (at : QuestionFault × ℕ). FaultAfter (LastingWordFault names) (LastingEndFault names) (length text) [] (pieces_of space text) at.0 at.1) same agrees

    pub fault_reported : IsFaultForEver names text fault place → lasting_in names text ≡ Err (fault, place)
    unfolding lasting_in
    fault_reported is = go (written_in names text) text_agrees where
      go : (r : Result (List Lasting) (QuestionFault × ℕ)) → Agree r → result_then (λ parts. Ok (resolved_lasting names parts)) r ≡ Err (fault, place)
      go (Ok parts) agrees = absurd (agrees fault place is)
      go (Err found) agrees =
          let same = one_first (LastingWordFault names) (LastingEndFault names) (length text) (one_lasting_fault names) (one_lasting_end names) [] (pieces_of space text) found.0 fault found.1 place agrees is in
          pair_is found fault place same.0 same.1
