-- A part of a question of what stays for ever is read as the words of another question.
use Rattle.std.proofs.Common.{◌≡◌, ℕ, eqb, leb, Bool, true, false, not, ◌&&◌, ◌||◌, cond, List, [], length, Option, Some, None, Result, Ok, Err, refl, ◌∙◌}
use Rattle.std.specs.Prelude.{codes}
use Rattle.std.specs.List.{list_all, list_any}
use Rattle.std.specs.Str.{bytes_eq}
use Rattle.fmp_names.specs.Names.{NameLists}
use Rattle.fmp_search_pattern.specs.Items.{Item}
use Rattle.fmp_search_pattern.specs.declared.spot.Spot.{Spot}
use Rattle.fmp_search_pattern.specs.declared.spot.Spot.TheVariants.{Front}
use Rattle.fmp_search_pattern.specs.Spots.{may_end}
use Rattle.fmp_search_pattern.specs.Words.{is_fine, is_printed, runs_of}
use Rattle.fmp_search_question.specs.declared.fault.QuestionFault.{QuestionFault}
use Rattle.fmp_search_question.specs.declared.fault.QuestionFault.TheVariants.{BadWord, TooLong, UnknownName}
use Rattle.fmp_search_question.specs.Places.{longer, next_spot}
use Rattle.fmp_search_question.specs.Reading.{Draft, after_word, at_spot, or_form, with_not, with_pattern, with_refused, with_word}
use Rattle.fmp_law_faults.specs.LastingFaults.{foreign_words}

-- nothing but one part was read
pub record IsPart (d : Draft) : Type 0 where
  pub steps : d.steps ≡ []
  pub times : d.times ≡ None
  pub moment : d.moment ≡ None
  pub parts : d.parts ≡ []

-- what is no word of a part
pub record IsOne (word : List ℕ) : Type 0 where
  pub no_then : bytes_eq word (codes "then") ≡ false
  pub no_without : bytes_eq word (codes "without") ≡ false
  pub no_times : bytes_eq word (codes "times") ≡ false
  pub no_or : bytes_eq word (codes "or") ≡ false
  pub no_ever : bytes_eq word (codes "ever") ≡ false

or_parts : (a b : Bool) → (a || b) ≡ false → (a ≡ false) × (b ≡ false)
or_parts false b is = (refl, is)
or_parts true b is = absurd cc

pub one_is : (word : List ℕ) → list_any (bytes_eq word) foreign_words ≡ false → IsOne word
one_is word is =
    let a = or_parts (bytes_eq word (codes "then")) _ is in
    let b = or_parts (bytes_eq word (codes "without")) _ a.1 in
    let c = or_parts (bytes_eq word (codes "times")) _ b.1 in
    let d = or_parts (bytes_eq word (codes "or")) _ c.1 in
    let e = or_parts (bytes_eq word (codes "ever")) _ d.1 in
    record { no_then = a.0; no_without = b.0; no_times = c.0; no_or = d.0; no_ever = e.0 }

-- the draft after a pattern, `not`, `refused` or a word is still of one part
abbrev pub Keeps : Result Draft QuestionFault → Type 0
Keeps (Err fault) = Unit {0}
Keeps (Ok e) = IsPart e

module _ (names : NameLists) (d : Draft) (p : IsPart d) where
  like : (e : Draft) → e.steps ≡ d.steps → e.times ≡ d.times → e.moment ≡ d.moment → e.parts ≡ d.parts → IsPart e
  like e a b c f = record { steps = a ∙ p.steps; times = b ∙ p.times; moment = c ∙ p.moment; parts = f ∙ p.parts }

  item_kept : (items : List Item) (negated : Bool) (pattern : List ℕ) (place : Spot) → IsPart (record d { items = items; negated = negated; pattern = pattern; spot = place })
  item_kept items negated pattern place = record { steps = p.steps; times = p.times; moment = p.moment; parts = p.parts }

  keeps_if : (test : Bool) (items : List Item) (negated : Bool) (pattern : List ℕ) (place : Spot)
      → Keeps (or_form (cond test (Some (record d { items = items; negated = negated; pattern = pattern; spot = place })) None))
  keeps_if true items negated pattern place = item_kept items negated pattern place
  keeps_if false items negated pattern place = tt

  keeps_unless : (test : Bool) (items : List Item) (negated : Bool) (pattern : List ℕ) (place : Spot)
      → Keeps (or_form (cond test None (Some (record d { items = items; negated = negated; pattern = pattern; spot = place }))))
  keeps_unless true items negated pattern place = tt
  keeps_unless false items negated pattern place = item_kept items negated pattern place

  keeps_pattern : Keeps (or_form (with_pattern d))
  unfolding with_pattern
  keeps_pattern = keeps_unless (eqb (length d.pattern) 0 || not (may_end d.spot)) _ false [] Front

  keeps_spot : (word : List ℕ) (next : Option Spot) → Keeps (at_spot d word next)
  keeps_spot word None = tt
  keeps_spot word (Some place) = item_kept d.items d.negated (longer d.pattern word) place

  keeps_word : (word : List ℕ) → Keeps (with_word names d word)
  unfolding with_word
  keeps_word word = by (list_all (is_fine names) (runs_of word)) (leb (length (longer d.pattern word)) 1024) where
    by : (known short : Bool) → Keeps (cond known (cond short (at_spot d word (next_spot names d.pattern d.spot word)) (Err TooLong)) (Err UnknownName))
    by false short = tt
    by true false = tt
    by true true = keeps_spot word (next_spot names d.pattern d.spot word)

  pub word_keeps : (word : List ℕ) → list_any (bytes_eq word) foreign_words ≡ false → Keeps (after_word names d word)
  unfolding after_word
  word_keeps word foreign =
      let o = one_is word foreign in
      let a = o.no_then in
      let b = o.no_without in
      let c = o.no_times in
      let e = o.no_or in
      rw (a, b, c, e) (by (is_printed word) (bytes_eq word (codes "&")) (bytes_eq word (codes "not")) (bytes_eq word (codes "refused"))) where
        by : (printed both negation refusal : Bool)
            → Keeps (cond (not printed) (Err BadWord) (cond both (or_form (with_pattern d)) (cond false (Err BadWord) (cond negation (or_form (with_not d)) (cond refusal (or_form (with_refused d)) (with_word names d word))))))
        by false both negation refusal = tt
        by true true negation refusal = keeps_pattern
        by true false true refusal = keeps_if (eqb (length d.pattern) 0 && not d.negated) d.items true d.pattern d.spot
        by true false false true = keeps_if (eqb (length d.pattern) 0) d.items d.negated (codes " refused ") _
        by true false false false = keeps_word word
