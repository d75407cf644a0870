-- The first fault of a question is that of the table.
use Rattle.std.proofs.Common.{◌≡◌, ℕ, ◌≤◌, ◌<◌, leb, inl, inr, ◌⊎◌, Bool, true, false, cond, List, [], ◌∷◌, ◌++◌, length, Option}
use Rattle.std.proofs.Common.{Result, Ok, Err, refl, sym, ap, subst, ◌∙◌, arith}
use Rattle.std.specs.Prelude.{codes, option_map}
use Rattle.std.specs.List.{list_any}
use Rattle.std.specs.Str.{bytes_eq}
use Rattle.fmp_search_question.specs.Grammar.Grammar.{own_words, spaced}
use Rattle.std.proofs.lemmas.Bool.{false≢true, leb-true, leb-false}
use Rattle.fmp_bytes.specs.Bytes.{pieces_of, space}
use Rattle.fmp_bytes.proofs.Cutting.{join-pieces_of}
use Rattle.fmp_names.specs.Names.{NameLists}
use Rattle.fmp_search_pattern.specs.declared.question.Step.{Step}
use Rattle.fmp_search_question.specs.declared.fault.QuestionFault.{QuestionFault}
use Rattle.fmp_search_question.specs.declared.fault.QuestionFault.TheVariants.{NoLine, TooLong}
use Rattle.fmp_search_question.specs.Reading.{Draft, after_word, ended, limited, nothing_read, or_form, part_ended, question_in, with_part, with_pattern, with_read, with_step, written_in}
use Rattle.fmp_search_question.specs.Resolved.{resolved}
use Rattle.fmp_search_question.specs.WordByWord.{at_place, result_then}
use Rattle.fmp_law_faults.specs.Words.{pattern_of, steps_in}
use Rattle.fmp_law_faults.specs.QuestionFaults.{EndFault, EndWithNoPattern, FaultAfter, HasNoPlace, IsFaultOfQuestion, PatternFault, WordFault}
use Rattle.fmp_law_faults.proofs.FirstFaults.{AllAgree, EndAgrees, all_agree, all_left, one_first, pair_is}
use Rattle.fmp_law_faults.proofs.Drafts.{IsAfter, nothing_is_read}
use Rattle.fmp_law_faults.proofs.QuestionWords.{an_end, no_end, pattern_ends, step_read, steps_read}
use Rattle.fmp_law_faults.proofs.QuestionWordsJudged.{judged}

-- ---- the end

module _ (names : NameLists) (bytes : ℕ) (words : List (List ℕ)) (d : Draft) (s : IsAfter names words d) where
  abbrev of_step : Result Draft QuestionFault → Result (List Step) (QuestionFault × ℕ)
  of_step r = result_then (λ (e : Draft). Ok e.steps) (at_place bytes r)

  end_judged : EndAgrees (EndFault names) bytes words (ended bytes d)
  unfolding with_step with_part
  end_judged = go (with_pattern d) refl where
    last : Draft
    last = step_read names words d s

    by : ¬ (EndWithNoPattern names words) → (few : Bool) → leb (length last.steps) 255 ≡ few → EndAgrees (EndFault names) bytes words (of_step (cond few (Ok last) (Err TooLong)))
    by some true few = λ fault f.
        elim f [
          | inl none ↦ some none.1
          | inr many ↦ let more = many.2 in omega (arith, leb-true (length last.steps) 255 few, steps_read names words d s, more)
        ]
    by some false many =
        let more = leb-false (length last.steps) 255 many in
        (inr (some, refl, omega (arith, more, steps_read names words d s)), refl)

    go : (o : Option Draft) → with_pattern d ≡ o → EndAgrees (EndFault names) bytes words (of_step (limited (or_form (option_map with_read (option_map part_ended o)))))
    go o e =
        elim (pattern_ends names words d s o e) [
          | inl p ↦ let none = p.1 in rw none (inl (refl, no_end names words d s p.0), refl)
          | inr p ↦ let some = p.1 in rw some (by (an_end names words d s p.0) (leb (length last.steps) 255) refl)
        ]

-- ---- a text has one first fault

contrary : {A : Type 0} (b : Bool) → b ≡ false → b ≡ true → A
contrary b one other = absurd (false≢true (sym one ∙ other))

one_pattern : (names : NameLists) (pattern : List (List ℕ)) (word : List ℕ) (f g : QuestionFault) → PatternFault names pattern word f → PatternFault names pattern word g → f ≡ g
one_pattern names pattern word f g (inl a) (inl b) = a.0 ∙ sym b.0
one_pattern names pattern word f g (inl a) (inr b) = contrary _ a.1 b.0
one_pattern names pattern word f g (inr a) (inl b) = contrary _ b.1 a.0
one_pattern names pattern word f g (inr a) (inr b) = go a.1 b.1 where
  go : ((f ≡ TooLong) × (1024 < length (spaced (pattern ++ word ∷ [])))) ⊎ ((length (spaced (pattern ++ word ∷ [])) ≤ 1024) × (f ≡ NoLine) × HasNoPlace names pattern word)
      → ((g ≡ TooLong) × (1024 < length (spaced (pattern ++ word ∷ [])))) ⊎ ((length (spaced (pattern ++ word ∷ [])) ≤ 1024) × (g ≡ NoLine) × HasNoPlace names pattern word) → f ≡ g
  go (inl c) (inl d) = c.0 ∙ sym d.0
  go (inl c) (inr d) = let long = c.1 in let short = d.0 in absurd (omega (arith, long, short))
  go (inr c) (inl d) = let long = d.1 in let short = c.0 in absurd (omega (arith, long, short))
  go (inr c) (inr d) = c.1 ∙ sym d.1

one_rest : (names : NameLists) (before : List (List ℕ)) (word : List ℕ) (f g : QuestionFault)
    → ((f ≡ TooLong) × (word ≡ codes "then") × (255 < steps_in before)) ⊎ ((list_any (bytes_eq word) own_words ≡ false) × PatternFault names (pattern_of before) word f)
    → ((g ≡ TooLong) × (word ≡ codes "then") × (255 < steps_in before)) ⊎ ((list_any (bytes_eq word) own_words ≡ false) × PatternFault names (pattern_of before) word g) → f ≡ g
one_rest names before word f g (inl a) (inl b) = a.0 ∙ sym b.0
one_rest names before word f g (inl a) (inr b) = contrary _ b.0 (ap (λ (w : List ℕ). list_any (bytes_eq w) own_words) a.1)
one_rest names before word f g (inr a) (inl b) = contrary _ a.0 (ap (λ (w : List ℕ). list_any (bytes_eq w) own_words) b.1)
one_rest names before word f g (inr a) (inr b) = one_pattern names (pattern_of before) word f g a.1 b.1

pub one_fault : (names : NameLists) (before : List (List ℕ)) (word : List ℕ) (f g : QuestionFault) → WordFault names before word f → WordFault names before word g → f ≡ g
one_fault names before word f g (inl a) (inl b) = a.0 ∙ sym b.0
one_fault names before word f g (inl a) (inr b) = contrary _ a.1 b.0
one_fault names before word f g (inr a) (inl b) = contrary _ b.1 a.0
one_fault names before word f g (inr a) (inr b) =
    elim a.1 [
      | inl c ↦ elim b.1 [ inl d ↦ c.0 ∙ sym d.0 | inr d ↦ absurd (d.0 c.1) ]
      | inr c ↦ elim b.1 [ inl d ↦ absurd (c.0 d.1) | inr d ↦ one_rest names before word f g c.1 d.1 ]
    ]

one_end : (names : NameLists) (words : List (List ℕ)) (f g : QuestionFault) → EndFault names words f → EndFault names words g → f ≡ g
one_end names words f g (inl a) (inl b) = a.0 ∙ sym b.0
one_end names words f g (inl a) (inr b) = absurd (b.0 a.1)
one_end names words f g (inr a) (inl b) = absurd (a.0 b.1)
one_end names words f g (inr a) (inr b) = a.1 ∙ sym b.1

-- ---- whole texts

module _ (names : NameLists) (text : List ℕ) where
  abbrev Agree : Result (List Step) (QuestionFault × ℕ) → Type 0
  Agree r = AllAgree (WordFault names) (EndFault names) (IsAfter names) (after_word names) (ended (length text)) (length text) [] (pieces_of space text) r

  text_agrees : Agree (written_in names text)
  unfolding written_in
  text_agrees =
      all_agree (WordFault names) (EndFault names) (IsAfter names) (after_word names) (ended (length text)) (length text) (λ before d word s. judged names before d s word)
      (λ words d s. end_judged names (length text) words d s) [] (pieces_of space text) nothing_read (nothing_is_read names) (all_left text (pieces_of space text) (join-pieces_of space text))

  module _ (fault : QuestionFault) (place : ℕ) where
    pub fault_read : question_in names text ≡ Err (fault, place) → IsFaultOfQuestion names text fault place
    unfolding question_in
    fault_read is = go (written_in names text) text_agrees is where
      go : (r : Result (List Step) (QuestionFault × ℕ)) → Agree r
          → result_then (λ steps. Ok (resolved names steps)) r ≡ Err (fault, place) → IsFaultOfQuestion names text fault place
      go (Ok steps) agrees e = absurd cc
      go (Err found) agrees e =
          let same : found ≡ (fault, place) = cc in
          subst (λ (at : QuestionFault × ℕ). FaultAfter (WordFault names) (EndFault names) (length text) [] (pieces_of space text) at.0 at.1) same agrees

    pub fault_reported : IsFaultOfQuestion names text fault place → question_in names text ≡ Err (fault, place)
    unfolding question_in
    fault_reported is = go (written_in names text) text_agrees where
      go : (r : Result (List Step) (QuestionFault × ℕ)) → Agree r
          → result_then (λ steps. Ok (resolved names steps)) r ≡ Err (fault, place)
      go (Ok steps) agrees = absurd (agrees fault place is)
      go (Err found) agrees =
          let same = one_first (WordFault names) (EndFault names) (length text) (one_fault names) (one_end names) [] (pieces_of space text) found.0 fault found.1 place agrees is in
          pair_is found fault place same.0 same.1
