-- The grammar of questions, apart from how they are read: which texts ask which question.
use Rattle.std.specs.Prelude.{◌≡◌, ℕ, ◌≤◌, ◌⊎◌, ◌==◌, Bool, true, false, not, ◌&&◌, List, [], ◌∷◌, ◌++◌, length, Option, None, Some, option_and_then, replicate, codes}
use Rattle.std.specs.List.{list_all, list_any, join_with_byte}
use Rattle.std.specs.Option.{option_map_or}
use Rattle.std.specs.Str.{bytes_eq}
use Rattle.std.specs.Str.Parse.{digits_value}
use Rattle.fmp_bytes.specs.Bytes.{pieces_of, space}
use Rattle.fmp_bytes.specs.Numerals.{are_digits}
use Rattle.fmp_names.specs.Names.{NameLists}
use Rattle.fmp_search_pattern.specs.declared.items.Wanted.{Wanted}
use Rattle.fmp_search_pattern.specs.declared.items.Wanted.TheVariants as wanted
use Rattle.fmp_search_pattern.specs.declared.question.Step.{Step}
use Rattle.fmp_search_pattern.specs.declared.spot.Spot.{Spot}
use Rattle.fmp_search_pattern.specs.declared.spot.Spot.TheVariants.{Front}
use Rattle.fmp_search_pattern.specs.Items.{Item}
use Rattle.fmp_search_question.specs.Places.{last_spot, words_of}
use Rattle.fmp_search_question.specs.Reading.{most_pattern, most_steps}
use Rattle.fmp_search_question.specs.Resolved.{resolved}
use Rattle.fmp_search_pattern.specs.Spots.{may_end, stepped}
use Rattle.fmp_search_pattern.specs.Words.{is_fine, is_printed, runs_of, star}
use Rattle.fmp_search_question.specs.Grammar.Rows.{SpellsRow}

-- the words that the language keeps for itself
abbrev pub own_words : List (List ℕ)
own_words = codes "&" ∷ codes "or" ∷ codes "not" ∷ codes "refused" ∷ codes "without" ∷ codes "then" ∷ codes "times" ∷ []

-- a word of a pattern: printable, none of these, and each of its runs is known
abbrev pub is_pattern_word : NameLists → List ℕ → Bool
is_pattern_word names word = is_printed word && (not (list_any (bytes_eq word) own_words) && list_all (is_fine names) (runs_of word))

-- words with a blank before each of them, and one after the last
abbrev pub spaced : List (List ℕ) → List ℕ
spaced [] = space ∷ []
spaced (word ∷ words) = space ∷ (word ++ spaced words)

-- where words end with one more, where they ended somewhere: by what all of them ask for together, or by where the last one stands in a record. None
-- where it may not stand after them
abbrev pub place_after : NameLists → List (List ℕ) → Spot → List ℕ → Option Spot
place_after names before place word = stepped place (last_spot names (words_of (spaced (before ++ word ∷ []))) word)

-- where some words end with others after them, each of which may stand after all those before it. None where one may not
abbrev pub placed : NameLists → List (List ℕ) → Spot → List (List ℕ) → Option Spot
placed names before place [] = Some place
placed names before place (word ∷ words) = option_and_then (λ next. placed names (before ++ word ∷ []) next words) (place_after names before place word)

-- each word may stand after those before it, and with the last one a pattern may end
abbrev pub may_stand : NameLists → List (List ℕ) → Bool
may_stand names words = option_map_or may_end (placed names [] Front words) false

-- with blanks around them they are not too long
abbrev pub AreShort : List (List ℕ) → Type 0
AreShort words = length (spaced words) ≤ most_pattern

-- one or more such words. They ask for the pieces between their stars
pub record SpellsPattern (names : NameLists) (words : List (List ℕ)) (pattern : List (List ℕ)) : Type 0 where
  pub some : 1 ≤ length words
  pub each : list_all (is_pattern_word names) words ≡ true
  pub short : AreShort words
  pub stand : may_stand names words ≡ true
  pub pieces : pattern ≡ pieces_of star (spaced words)

-- `refused` or a pattern
abbrev pub SpellsWanted : NameLists → List (List ℕ) → Wanted → Type 0
SpellsWanted names words wanted.Refused = words ≡ codes "refused" ∷ []
SpellsWanted names words (wanted.Line pattern) = SpellsPattern names words pattern
SpellsWanted names words wanted.End = ⊥
SpellsWanted names words (wanted.State pattern asked) = ⊥

-- with `not` before it, or without
abbrev pub Negated : (List (List ℕ) → Type 0) → Bool → List (List ℕ) → Type 0
Negated Spells true words = (rest : List (List ℕ)) × (words ≡ codes "not" ∷ rest) × Spells rest
Negated Spells false words = Spells words

abbrev pub SpellsItem : NameLists → List (List ℕ) → Item → Type 0
SpellsItem names words item = Negated (λ rest. SpellsWanted names rest item.wanted) item.negated words

abbrev pub SpellsPart : NameLists → List (List ℕ) → List Item → Type 0
SpellsPart names words part = SpellsRow (SpellsItem names) (codes "&") words part

abbrev pub SpellsMoment : NameLists → List (List ℕ) → List (List Item) → Type 0
SpellsMoment names words moment = SpellsRow (SpellsPart names) (codes "or") words moment

-- the decimal digits of a number of steps
pub record SpellsCount (digits : List ℕ) (times : ℕ) : Type 0 where
  pub decimal : are_digits 10 digits ≡ true
  pub value : digits_value 10 digits ≡ times
  pub least : 1 ≤ times
  pub most : times ≤ most_steps
  pub short : AreShort (digits ∷ [])

-- a number and `times`, or nothing, where the step stands once
abbrev pub SpellsTimes : List (List ℕ) → ℕ → Type 0
SpellsTimes words times = ((words ≡ []) × (times ≡ 1)) ⊎ ((digits : List ℕ) × (words ≡ digits ∷ codes "times" ∷ []) × SpellsCount digits times)

-- `without` and a moment, or nothing
abbrev pub SpellsWithout : NameLists → List (List ℕ) → Option (List (List Item)) → Type 0
SpellsWithout names words None = words ≡ []
SpellsWithout names words (Some moment) = (rest : List (List ℕ)) × (words ≡ codes "without" ∷ rest) × SpellsMoment names rest moment

-- a step, and how often it stands
pub record SpellsStep (names : NameLists) (words : List (List ℕ)) (times : ℕ) (step : Step) : Type 0 where
  pub front : List (List ℕ)
  pub middle : List (List ℕ)
  pub rest : List (List ℕ)
  pub parts : words ≡ front ++ (middle ++ rest)
  pub counted : SpellsTimes front times
  pub moment : SpellsMoment names middle step.moment
  pub without : SpellsWithout names rest step.without

-- each step as often as it stands
abbrev pub repeated : List (ℕ × Step) → List Step
repeated [] = []
repeated (step ∷ steps) = replicate step.0 step.1 ++ repeated steps

abbrev pub AsksWords : NameLists → List (List ℕ) → List Step → Type 0
AsksWords names words question =
    (steps : List (ℕ × Step)) × SpellsRow (λ front step. SpellsStep names front step.0 step.1) (codes "then") words steps × (question ≡ repeated steps)

-- a text of words, with one blank between each two, and the steps that are written there, each pattern as one of a record. They are not too many
pub record Writes (names : NameLists) (text : List ℕ) (question : List Step) : Type 0 where
  pub words : List (List ℕ)
  pub parts : text ≡ join_with_byte space words
  pub cut : list_all (list_all (λ b. not (b == space))) words ≡ true
  pub asked : AsksWords names words question
  pub few : length question ≤ most_steps

-- what is written asks for facts wherever its patterns speak of a state
abbrev pub Asks : NameLists → List ℕ → List Step → Type 0
Asks names text question = (written : List Step) × Writes names text written × (question ≡ resolved names written)
