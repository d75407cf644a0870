-- Each word of a question is judged as the table says.
use Rattle.std.proofs.Common.{◌≡◌, ◌≢◌, ℕ, ◌≤◌, ◌<◌, leb, inl, inr, Bool, true, false, cond, List, [], ◌∷◌, ◌++◌, length, Option, Some, None}
use Rattle.std.proofs.Common.{Err, refl, sym, ap, subst, ◌∙◌, arith}
use Rattle.std.specs.Prelude.{codes}
use Rattle.std.specs.List.{list_all, list_any}
use Rattle.std.specs.Str.{bytes_eq}
use Rattle.std.proofs.lemmas.Bool.{cases_Bool, false≢true, leb-true, leb-false}
use Rattle.fmp_bytes.proofs.Words.{is_word, same_word}
use Rattle.fmp_names.specs.Names.{NameLists}
use Rattle.fmp_search_pattern.specs.declared.spot.Spot.{Spot}
use Rattle.fmp_search_pattern.specs.Words.{is_fine, is_printed, runs_of}
use Rattle.fmp_search_question.specs.declared.fault.QuestionFault.{QuestionFault}
use Rattle.fmp_search_question.specs.declared.fault.QuestionFault.TheVariants.{TooLong}
use Rattle.fmp_search_question.specs.Grammar.Grammar.{is_pattern_word, own_words, spaced}
use Rattle.fmp_search_question.specs.Places.{longer, next_spot}
use Rattle.fmp_search_question.specs.Reading.{Draft, after_word, at_spot, with_word}
use Rattle.fmp_law_faults.specs.Words.{pattern_of}
use Rattle.fmp_law_faults.specs.QuestionFaults.{HasNoPlace, IsMisplaced, PatternFault, WordFault, closes_nothing, no_count, not_again, not_within, refused_within, without_again}
use Rattle.fmp_law_faults.proofs.Patterns.{has_no_place, has_place, longer_is, open_more, text_of}
use Rattle.fmp_law_faults.proofs.Drafts.{IsAfter, in_pattern}
use Rattle.fmp_law_faults.proofs.QuestionWords.{Agrees, and_judged, not_judged, or_judged, refused_judged, then_judged, times_judged, without_judged}

-- ---- a word of a pattern

-- none of the words of the language
record IsForeign (word : List ℕ) : Type 0 where
  no_and : bytes_eq word (codes "&") ≡ false
  no_or : bytes_eq word (codes "or") ≡ false
  no_not : bytes_eq word (codes "not") ≡ false
  no_refused : bytes_eq word (codes "refused") ≡ false
  no_without : bytes_eq word (codes "without") ≡ false
  no_then : bytes_eq word (codes "then") ≡ false
  no_times : bytes_eq word (codes "times") ≡ false

module _ (names : NameLists) (before : List (List ℕ)) (d : Draft) (s : IsAfter names before d) (word : List ℕ) (printed : is_printed word ≡ true) (f : IsForeign word) where
  abbrev words : List (List ℕ)
  words = pattern_of before

  abbrev known : Bool
  known = list_all (is_fine names) (runs_of word)

  no_own : list_any (bytes_eq word) own_words ≡ false
  no_own =
      let a = f.no_and in
      let b = f.no_or in
      let c = f.no_not in
      let e = f.no_refused in
      let g = f.no_without in
      let h = f.no_then in
      let i = f.no_times in
      rw (a, b, c, e, g, h, i) refl

  is_not : (own : List ℕ) → bytes_eq word own ≡ false → word ≢ own
  is_not own other is = false≢true (sym other ∙ same_word word own is)

  fits : ¬ (IsMisplaced names before word)
  fits (closes_nothing one none) =
      let a = f.no_and in
      let b = f.no_or in
      let g = f.no_without in
      let h = f.no_then in
      false≢true (rw (a, b, g, h) at one)
  fits (without_again is again) = is_not (codes "without") f.no_without is
  fits (not_within is within) = is_not (codes "not") f.no_not is
  fits (not_again is again) = is_not (codes "not") f.no_not is
  fits (refused_within is within) = is_not (codes "refused") f.no_refused is
  fits (no_count is none) = is_not (codes "times") f.no_times is

  at_fault : (fault : QuestionFault) → PatternFault names words word fault → WordFault names before word fault
  at_fault fault p = inr (printed, inr (fits, inr (no_own, p)))

  no_fault : ((fault : QuestionFault) → ¬ (PatternFault names words word fault)) → (fault : QuestionFault) → ¬ (WordFault names before word fault)
  no_fault none fault w =
      elim w [
        | inl a ↦ false≢true (sym a.1 ∙ printed)
        | inr b ↦ elim b.1 [
          | inl c ↦ fits c.1
          | inr c ↦ elim c.1 [
            | inl g ↦ is_not (codes "then") f.no_then g.1
            | inr h ↦ none fault h.1
          ]
        ]
      ]

  none_of : known ≡ true → length (spaced (words ++ word ∷ [])) ≤ 1024 → ¬ (HasNoPlace names words word) → (fault : QuestionFault) → ¬ (PatternFault names words word fault)
  none_of is short place fault p =
      elim p [
        | inl a ↦ false≢true (sym a.1 ∙ is)
        | inr b ↦ elim b.1 [
          | inl c ↦ let long = c.1 in omega (arith, long, short)
          | inr c ↦ place c.2
        ]
      ]

  longer_so : longer d.pattern word ≡ spaced (words ++ word ∷ [])
  longer_so = ap (λ (text : List ℕ). longer text word) s.pattern ∙ longer_is words word

  next_so : next_spot names d.pattern d.spot word ≡ next_spot names (text_of words) d.spot word
  next_so = ap (λ (text : List ℕ). next_spot names text d.spot word) s.pattern

  spot_judged : known ≡ true → length (spaced (words ++ word ∷ [])) ≤ 1024 → (next : Option Spot) → next_spot names d.pattern d.spot word ≡ next → Agrees names before word (at_spot d word next)
  spot_judged is short None e =
      at_fault _ (inr (is, inr (short, refl, has_no_place names words d.spot word s.is_open (sym next_so ∙ e))))
  spot_judged is short (Some place) e =
      let at = sym next_so ∙ e in
      let own = no_own in
      let one : is_pattern_word names word ≡ true = rw (printed, own, is) refl in
      let a = f.no_and in
      let b = f.no_or in
      let c = f.no_not in
      let g = f.no_without in
      let h = f.no_then in
      let i = f.no_times in (
        no_fault (none_of is short (has_place names words d.spot word place s.is_open at)),
        in_pattern names before d s word (longer d.pattern word) place (rw (a, b, c, g, h, i) refl) h g i (longer_so ∙ sym (text_more words)) (open_more names words d.spot word place s.is_open one short at),
      ) where
        text_more : (ws : List (List ℕ)) → text_of (ws ++ word ∷ []) ≡ spaced (ws ++ word ∷ [])
        text_more [] = refl
        text_more (first ∷ ws) = refl

  length_judged : known ≡ true → (short : Bool) → leb (length (longer d.pattern word)) 1024 ≡ short
      → Agrees names before word (cond short (at_spot d word (next_spot names d.pattern d.spot word)) (Err TooLong))
  length_judged is true e =
      let few = leb-true (length (longer d.pattern word)) 1024 e in
      spot_judged is (subst (λ (text : List ℕ). length text ≤ 1024) longer_so few) (next_spot names d.pattern d.spot word) refl
  length_judged is false e =
      let many = leb-false (length (longer d.pattern word)) 1024 e in
      at_fault TooLong (inr (is, inl (refl, subst (λ (text : List ℕ). 1024 < length text) longer_so many)))

  word_judged : Agrees names before word (with_word names d word)
  unfolding with_word
  word_judged = go known refl where
    go : (is : Bool) → known ≡ is → Agrees names before word (with_word names d word)
    go false e = rw e (at_fault _ (inl (refl, e)))
    go true e = rw e (length_judged e (leb (length (longer d.pattern word)) 1024) refl)

  foreign_is : after_word names d word ≡ with_word names d word
  unfolding after_word
  foreign_is =
      let a = f.no_and in
      let b = f.no_or in
      let c = f.no_not in
      let e = f.no_refused in
      let g = f.no_without in
      let h = f.no_then in
      let i = f.no_times in
      rw (printed, a, b, c, e, g, h, i) refl

  foreign_judged : Agrees names before word (after_word names d word)
  foreign_judged = subst (λ r. Agrees names before word r) (sym foreign_is) word_judged

-- ---- each word

module _ (names : NameLists) (before : List (List ℕ)) (d : Draft) (s : IsAfter names before d) where
  at_and : is_printed (codes "&") ≡ true → Agrees names before (codes "&") (after_word names d (codes "&"))
  unfolding after_word
  at_and printed = rw printed (and_judged names before d s printed)

  at_or : is_printed (codes "or") ≡ true → Agrees names before (codes "or") (after_word names d (codes "or"))
  unfolding after_word
  at_or printed = rw printed (or_judged names before d s printed)

  at_not : is_printed (codes "not") ≡ true → Agrees names before (codes "not") (after_word names d (codes "not"))
  unfolding after_word
  at_not printed = rw printed (not_judged names before d s printed)

  at_refused : is_printed (codes "refused") ≡ true → Agrees names before (codes "refused") (after_word names d (codes "refused"))
  unfolding after_word
  at_refused printed = rw printed (refused_judged names before d s printed)

  at_without : is_printed (codes "without") ≡ true → Agrees names before (codes "without") (after_word names d (codes "without"))
  unfolding after_word
  at_without printed = rw printed (without_judged names before d s printed)

  at_then : is_printed (codes "then") ≡ true → Agrees names before (codes "then") (after_word names d (codes "then"))
  unfolding after_word
  at_then printed = rw printed (then_judged names before d s printed)

  at_times : is_printed (codes "times") ≡ true → Agrees names before (codes "times") (after_word names d (codes "times"))
  unfolding after_word
  at_times printed = rw printed (times_judged names before d s printed)

  module _ (word : List ℕ) (printed : is_printed word ≡ true) where
    abbrev Judged : Type 0
    Judged = Agrees names before word (after_word names d word)

    -- the word is this one
    at_word : (own : List ℕ) → (is_printed own ≡ true → Agrees names before own (after_word names d own)) → bytes_eq word own ≡ true → Judged
    at_word own judged t =
        let is = is_word word own t in
        subst (λ (w : List ℕ). Agrees names before w (after_word names d w)) (sym is) (judged (subst (λ (w : List ℕ). is_printed w ≡ true) is printed))

    -- or it is not
    either : (own : List ℕ) → (is_printed own ≡ true → Agrees names before own (after_word names d own)) → (bytes_eq word own ≡ false → Judged) → Judged
    either own judged other = elim (cases_Bool (bytes_eq word own)) [ inl t ↦ at_word own judged t | inr differs ↦ other differs ]

    printed_judged : Judged
    printed_judged =
        either (codes "&") at_and (λ a.
        either (codes "or") at_or (λ b.
        either (codes "not") at_not (λ c.
        either (codes "refused") at_refused (λ e.
        either (codes "without") at_without (λ g.
        either (codes "then") at_then (λ h.
        either (codes "times") at_times (λ i.
        foreign_judged names before d s word printed (record { no_and = a; no_or = b; no_not = c; no_refused = e; no_without = g; no_then = h; no_times = i }))))))))

  pub judged : (word : List ℕ) → Agrees names before word (after_word names d word)
  unfolding after_word
  judged word =
      elim (cases_Bool (is_printed word)) [
        | inl t ↦ printed_judged word t
        | inr not_so ↦ rw not_so (inl (refl, not_so))
      ]
