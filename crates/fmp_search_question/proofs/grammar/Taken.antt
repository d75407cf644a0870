-- What one word of a question does, where it is not at fault.
use Rattle.std.proofs.Common.{◌≡◌, ℕ, ◌≤◌, ◌⊎◌, inl, inr, Bool, true, false, cond, leb, List, length, Option, Some, None, Result, Ok, Err, refl, ap}
use Rattle.std.specs.Prelude.{codes, option_and_then, option_map}
use Rattle.std.specs.List.{list_all, list_any}
use Rattle.std.specs.Str.{bytes_eq}
use Rattle.std.proofs.lemmas.Bool.{cases_Bool, leb-true}
use Rattle.fmp_bytes.proofs.Words.{is_word}
use Rattle.fmp_names.specs.Names.{NameLists}
use Rattle.fmp_search_pattern.specs.declared.spot.Spot.{Spot}
use Rattle.fmp_search_question.specs.declared.fault.QuestionFault.{QuestionFault}
use Rattle.fmp_search_question.specs.declared.fault.QuestionFault.TheVariants.{TooLong}
use Rattle.fmp_search_question.specs.Reading.{Draft, after_word, at_spot, limited, or_form, with_moment, with_not, with_part}
use Rattle.fmp_search_question.specs.Reading.{with_pattern, with_refused, with_step, with_times, with_word}
use Rattle.fmp_search_pattern.specs.Words.{is_fine, is_printed, runs_of}
use Rattle.fmp_search_question.specs.Grammar.Grammar.{is_pattern_word, own_words}
use Rattle.fmp_search_question.specs.Places.{longer, next_spot}

-- ---- values that are there

pub when_false : {A : Type 0} (test : Bool) (x y : A) → cond test None (Some x) ≡ Some y → (test ≡ false) × (x ≡ y)
when_false false x y is = (refl, cc)
when_false true x y is = absurd cc

pub when_true : {A : Type 0} (test : Bool) (x y : A) → cond test (Some x) None ≡ Some y → (test ≡ true) × (x ≡ y)
when_true true x y is = (refl, cc)
when_true false x y is = absurd cc

pub map_parts : {A B : Type 0} (f : A → B) (o : Option A) (y : B) → option_map f o ≡ Some y → (x : A) × (o ≡ Some x) × (f x ≡ y)
map_parts f None y is = absurd cc
map_parts f (Some x) y is = (x, refl, cc)

pub then_parts : {A B : Type 0} (f : A → Option B) (o : Option A) (y : B) → option_and_then f o ≡ Some y → (x : A) × (o ≡ Some x) × (f x ≡ Some y)
then_parts f None y is = absurd cc
then_parts f (Some x) y is = (x, refl, is)

module _ (e : Draft) where
  form_parts : (o : Option Draft) → or_form o ≡ Ok e → o ≡ Some e
  form_parts None is = absurd cc
  form_parts (Some d) is = let same : d ≡ e = cc in ap (λ (x : Draft). Some x) same

  limited_parts : (r : Result Draft QuestionFault) → limited r ≡ Ok e → r ≡ Ok e
  limited_parts (Err fault) is = absurd cc
  limited_parts (Ok d) is = few (leb (length d.steps) 255) is where
    few : (test : Bool) → cond test (Ok d) (Err TooLong) ≡ Ok e → ◌≡◌ {A = Result Draft QuestionFault} (Ok d) (Ok e)
    few true h = h
    few false h = absurd cc

  choose : (test : Bool) (one other : Result Draft QuestionFault) → cond test one other ≡ Ok e → ((test ≡ true) × (one ≡ Ok e)) ⊎ ((test ≡ false) × (other ≡ Ok e))
  choose true one other is = inl (refl, is)
  choose false one other is = inr (refl, is)

-- ---- one word

-- the pattern has a word more
abbrev pub following_word : Draft → List ℕ → Spot → Draft
following_word d word place = record d { pattern = longer d.pattern word; spot = place }

-- what the word is, and what was read after it
pub data Taken (names : NameLists) (d : Draft) (word : List ℕ) (e : Draft) : Type 0 where
  and : word ≡ codes "&" → with_pattern d ≡ Some e → Taken names d word e
  or : word ≡ codes "or" → with_part d ≡ Some e → Taken names d word e
  negation : word ≡ codes "not" → with_not d ≡ Some e → Taken names d word e
  refusal : word ≡ codes "refused" → with_refused d ≡ Some e → Taken names d word e
  without : word ≡ codes "without" → with_moment d ≡ Some e → Taken names d word e
  next : word ≡ codes "then" → with_step d ≡ Some e → Taken names d word e
  count : word ≡ codes "times" → with_times d ≡ Some e → Taken names d word e
  plain : (place : Spot) → is_pattern_word names word ≡ true → length (longer d.pattern word) ≤ 1024 → next_spot names d.pattern d.spot word ≡ Some place
      → e ≡ following_word d word place → Taken names d word e

spot_parts : (names : NameLists) (d e : Draft) (word : List ℕ) (o : Option Spot) → at_spot d word o ≡ Ok e
    → (place : Spot) × (o ≡ Some place) × (e ≡ following_word d word place)
spot_parts names d e word None is = absurd cc
spot_parts names d e word (Some place) is = (place, refl, cc)

module _ (names : NameLists) (d e : Draft) (word : List ℕ) where
  plain_parts : is_printed word ≡ true → list_any (bytes_eq word) own_words ≡ false → with_word names d word ≡ Ok e → Taken names d word e
  unfolding with_word
  plain_parts printed own is =
      elim (choose e (list_all (is_fine names) (runs_of word)) _ _ is) [
        | inl known ↦ elim (choose e (leb (length (longer d.pattern word)) 1024) _ _ known.1) [
          | inl short ↦
              let fine = known.0 in
              let spot = spot_parts names d e word (next_spot names d.pattern d.spot word) short.1 in
              plain spot.0 (rw (printed, own, fine) refl) (leb-true (length (longer d.pattern word)) 1024 short.0) spot.1 spot.2
          | inr long ↦ let bad = long.1 in absurd cc
        ]
        | inr other ↦ let bad = other.1 in absurd cc
      ]

  own_parts : bytes_eq word (codes "&") ≡ false → bytes_eq word (codes "or") ≡ false → bytes_eq word (codes "not") ≡ false → bytes_eq word (codes "refused") ≡ false
      → bytes_eq word (codes "without") ≡ false → bytes_eq word (codes "then") ≡ false → bytes_eq word (codes "times") ≡ false
      → list_any (bytes_eq word) own_words ≡ false
  own_parts a b c f g h i = rw (a, b, c, f, g, h, i) refl

  printed_parts : is_printed word ≡ true → after_word names d word ≡ Ok e → Taken names d word e
  unfolding after_word
  printed_parts printed whole =
      let is = rw printed at whole in
      elim (choose e (bytes_eq word (codes "&")) _ _ is) [
        | inl p ↦ and (is_word word (codes "&") p.0) (form_parts e (with_pattern d) p.1)
        | inr a ↦ elim (choose e (bytes_eq word (codes "or")) _ _ a.1) [
          | inl p ↦ or (is_word word (codes "or") p.0) (form_parts e (with_part d) p.1)
          | inr b ↦ elim (choose e (bytes_eq word (codes "not")) _ _ b.1) [
            | inl p ↦ negation (is_word word (codes "not") p.0) (form_parts e (with_not d) p.1)
            | inr c ↦ elim (choose e (bytes_eq word (codes "refused")) _ _ c.1) [
              | inl p ↦ refusal (is_word word (codes "refused") p.0) (form_parts e (with_refused d) p.1)
              | inr f ↦ elim (choose e (bytes_eq word (codes "without")) _ _ f.1) [
                | inl p ↦ without (is_word word (codes "without") p.0) (form_parts e (with_moment d) p.1)
                | inr g ↦ elim (choose e (bytes_eq word (codes "then")) _ _ g.1) [
                  | inl p ↦ next (is_word word (codes "then") p.0) (form_parts e (with_step d) (limited_parts e (or_form (with_step d)) p.1))
                  | inr h ↦ elim (choose e (bytes_eq word (codes "times")) _ _ h.1) [
                    | inl p ↦ count (is_word word (codes "times") p.0) (form_parts e (with_times d) p.1)
                    | inr i ↦ plain_parts printed (own_parts a.0 b.0 c.0 f.0 g.0 h.0 i.0) i.1
                  ]
                ]
              ]
            ]
          ]
        ]
      ]

  pub taken : after_word names d word ≡ Ok e → Taken names d word e
  unfolding after_word
  taken is =
      elim (cases_Bool (is_printed word)) [
        | inl t ↦ printed_parts t is
        | inr f ↦ let bad = rw f at is in absurd cc
      ]
