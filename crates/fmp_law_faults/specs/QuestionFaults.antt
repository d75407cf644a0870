-- What is wrong with a question, apart from how it is read: rows of faults, each where none above it is there. A word is at fault by the words before it,
-- of which none is.
use Rattle.std.specs.Prelude.{◌≡◌, ◌<◌, ◌≤◌, ◌⊎◌, ℕ, true, false, List, [], ◌∷◌, ◌++◌, length, None, codes}
use Rattle.std.specs.List.{list_all, list_any}
use Rattle.std.specs.Str.{bytes_eq}
use Rattle.fmp_bytes.specs.Bytes.{pieces_of, space}
use Rattle.fmp_names.specs.Names.{NameLists}
use Rattle.fmp_search_pattern.specs.declared.items.Wanted.{Wanted}
use Rattle.fmp_search_pattern.specs.declared.spot.Spot.TheVariants.{Front}
use Rattle.fmp_search_pattern.specs.Words.{is_fine, is_printed, runs_of}
use Rattle.fmp_search_question.specs.declared.fault.QuestionFault.{QuestionFault}
use Rattle.fmp_search_question.specs.declared.fault.QuestionFault.TheVariants.{BadWord, BadForm, UnknownName, TooLong, NoLine}
use Rattle.fmp_search_question.specs.Reading.{most_pattern, most_steps}
use Rattle.fmp_search_question.specs.Grammar.Grammar.{SpellsCount, SpellsWanted, own_words, placed, spaced}
use Rattle.fmp_law_faults.specs.Words.{bytes_of, end_with, is_without, pattern_of, step_of, steps_in}

-- ---- a word that is not allowed where it is

-- they end with no whole pattern, and with no `refused`
abbrev pub EndWithNoPattern : NameLists → List (List ℕ) → Type 0
EndWithNoPattern names before = (wanted : Wanted) → ¬ (SpellsWanted names (pattern_of before) wanted)

-- the words before which a pattern ends
abbrev pub closing : List (List ℕ)
closing = codes "&" ∷ codes "or" ∷ codes "without" ∷ codes "then" ∷ []

-- one of these without a pattern before it; a second `without` in a step; `not` within a pattern, or after `not`; `refused` within a pattern; `times` after
-- anything but one number from 1 to 255 at the front of a step
pub data IsMisplaced (names : NameLists) (before : List (List ℕ)) (word : List ℕ) : Type 0 where
  closes_nothing : list_any (bytes_eq word) closing ≡ true → EndWithNoPattern names before → IsMisplaced names before word
  without_again : word ≡ codes "without" → list_any is_without (step_of before) ≡ true → IsMisplaced names before word
  not_within : word ≡ codes "not" → 1 ≤ length (pattern_of before) → IsMisplaced names before word
  not_again : word ≡ codes "not" → end_with (codes "not") before ≡ true → IsMisplaced names before word
  refused_within : word ≡ codes "refused" → 1 ≤ length (pattern_of before) → IsMisplaced names before word
  no_count : word ≡ codes "times" → ((digits : List ℕ) (times : ℕ) → step_of before ≡ digits ∷ [] → ¬ (SpellsCount digits times)) → IsMisplaced names before word

-- ---- a word of a pattern

-- it comes after `refused`, or where no record has it and it is no fact of what they are about
abbrev pub HasNoPlace : NameLists → List (List ℕ) → List ℕ → Type 0
HasNoPlace names pattern word = (pattern ≡ codes "refused" ∷ []) ⊎ (placed names [] Front (pattern ++ word ∷ []) ≡ None)

-- a name is unknown; the pattern is too long with it; or it has no place there
abbrev pub PatternFault : NameLists → List (List ℕ) → List ℕ → QuestionFault → Type 0
PatternFault names pattern word fault =
    ((fault ≡ UnknownName) × (list_all (is_fine names) (runs_of word) ≡ false))
    ⊎ ((list_all (is_fine names) (runs_of word) ≡ true) × (((fault ≡ TooLong) × (most_pattern < length (spaced (pattern ++ word ∷ []))))
    ⊎ ((length (spaced (pattern ++ word ∷ [])) ≤ most_pattern) × (fault ≡ NoLine) × HasNoPlace names pattern word)))

-- ---- the first fault

-- the word is empty, or has a byte that is not printed; it is not allowed there; it ends the last of too many steps; or it has a fault as one of a pattern
abbrev pub WordFault : NameLists → List (List ℕ) → List ℕ → QuestionFault → Type 0
WordFault names before word fault =
    ((fault ≡ BadWord) × (is_printed word ≡ false))
    ⊎ ((is_printed word ≡ true) × (((fault ≡ BadForm) × IsMisplaced names before word)
    ⊎ (¬ (IsMisplaced names before word) × (((fault ≡ TooLong) × (word ≡ codes "then") × (most_steps < steps_in before))
    ⊎ ((list_any (bytes_eq word) own_words ≡ false) × PatternFault names (pattern_of before) word fault)))))

-- the words end with no pattern, or there are too many steps
abbrev pub EndFault : NameLists → List (List ℕ) → QuestionFault → Type 0
EndFault names words fault =
    ((fault ≡ BadForm) × EndWithNoPattern names words) ⊎ (¬ (EndWithNoPattern names words) × (fault ≡ TooLong) × (most_steps < steps_in words))

-- by rows for words and for the end: the fault of the first word that has one, with the number of bytes before that word; or that of the end, after all bytes
abbrev pub FaultAfter : (List (List ℕ) → List ℕ → QuestionFault → Type 0) → (List (List ℕ) → QuestionFault → Type 0) → ℕ → List (List ℕ) → List (List ℕ) → QuestionFault
    → ℕ → Type 0
FaultAfter OfWord OfEnd bytes before [] fault place = OfEnd before fault × (place ≡ bytes)
FaultAfter OfWord OfEnd bytes before (word ∷ words) fault place =
    (OfWord before word fault × (place ≡ bytes_of before))
    ⊎ (((other : QuestionFault) → ¬ (OfWord before word other)) × FaultAfter OfWord OfEnd bytes (before ++ word ∷ []) words fault place)

-- the first fault of a text of words, with one blank between each two
abbrev pub IsFaultOfQuestion : NameLists → List ℕ → QuestionFault → ℕ → Type 0
IsFaultOfQuestion names text fault place = FaultAfter (WordFault names) (EndFault names) (length text) [] (pieces_of space text) fault place
