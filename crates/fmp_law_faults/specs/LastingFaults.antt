-- What is wrong with a question of what stays for ever, apart from how it is read: rows of faults, each where none above it is there. A word is at fault by
-- the words before it, of which none is; within a part as in another question.
use Rattle.std.specs.Prelude.{◌≡◌, ◌≢◌, ◌<◌, ◌⊎◌, ◌==◌, ℕ, Bool, true, false, not, List, [], ◌∷◌, ◌++◌, length, count_by, if◌then◌else◌, codes}
use Rattle.std.specs.List.{list_any}
use Rattle.std.specs.Str.{bytes_eq}
use Rattle.fmp_bytes.specs.Bytes.{pieces_of, space}
use Rattle.fmp_names.specs.Names.{NameLists}
use Rattle.fmp_search_pattern.specs.Lasting.{Lasting}
use Rattle.fmp_search_pattern.specs.Words.{is_printed}
use Rattle.fmp_search_question.specs.declared.fault.QuestionFault.{QuestionFault}
use Rattle.fmp_search_question.specs.declared.fault.QuestionFault.TheVariants.{BadForm, BadWord, TooLong, UnknownName}
use Rattle.fmp_search_question.specs.Lasting.{are_tasks, begins_so, most_parts}
use Rattle.fmp_search_question.specs.Waiting.{comma, waits_but}
use Rattle.fmp_law_faults.specs.QuestionFaults.{EndWithNoPattern, FaultAfter, WordFault}
use Rattle.fmp_law_faults.specs.Words.{after_last, end_with}

abbrev pub is_or : List ℕ → Bool
is_or word = bytes_eq word (codes "or")

abbrev pub is_ever : List ℕ → Bool
is_ever word = bytes_eq word (codes "ever")

-- the words of the part that is open: `or` stands between parts
abbrev pub part_of : List (List ℕ) → List (List ℕ)
part_of words = after_last is_or words

-- words that no part has
abbrev pub foreign_words : List (List ℕ)
foreign_words = codes "then" ∷ codes "without" ∷ codes "times" ∷ codes "or" ∷ codes "ever" ∷ []

-- in a part: such a word; `for` without a pattern before it; or a fault as in a question of these words
abbrev pub PartFault : NameLists → List (List ℕ) → List ℕ → QuestionFault → Type 0
PartFault names part word fault =
    ((fault ≡ BadForm) × (list_any (bytes_eq word) foreign_words ≡ true))
    ⊎ ((list_any (bytes_eq word) foreign_words ≡ false) × (((word ≡ codes "for") × (fault ≡ BadForm) × EndWithNoPattern names part)
    ⊎ ((word ≢ codes "for") × WordFault names part word fault)))

-- after `deadlock`: another word than `but`; a name after that which is no task, or no task that is left; any word after the names
abbrev pub DeadlockFault : NameLists → List (List ℕ) → List ℕ → QuestionFault → Type 0
DeadlockFault names (deadlock ∷ []) word fault = (fault ≡ BadForm) × (word ≢ codes "but")
DeadlockFault names (deadlock ∷ but ∷ []) word fault =
    ((fault ≡ UnknownName) × (are_tasks names word ≡ false))
    ⊎ ((are_tasks names word ≡ true) × (fault ≡ BadForm) × (waits_but names (pieces_of comma word) ≡ []))
DeadlockFault names other word fault = fault ≡ BadForm

-- after `deadlock`; after `for` another word than `ever`; after `ever` another than `or`; or in a part
abbrev pub PlaceFault : NameLists → List (List ℕ) → List ℕ → QuestionFault → Bool → Bool → Bool → Type 0
PlaceFault names before word fault true for ever = DeadlockFault names before word fault
PlaceFault names before word fault false true ever = (fault ≡ BadForm) × (word ≢ codes "ever")
PlaceFault names before word fault false false true = (fault ≡ BadForm) × (word ≢ codes "or")
PlaceFault names before word fault false false false = (begins_so (before ++ word ∷ []) ≡ false) × PartFault names (part_of before) word fault

-- the word is empty, or has a byte that is not printed; or it is not allowed there
abbrev pub LastingWordFault : NameLists → List (List ℕ) → List ℕ → QuestionFault → Type 0
LastingWordFault names before word fault =
    ((fault ≡ BadWord) × (is_printed word ≡ false))
    ⊎ ((is_printed word ≡ true) × PlaceFault names before word fault (begins_so before) (end_with (codes "for") before) (end_with (codes "ever") before))

-- ---- the end

-- after `deadlock`, or the names after `but`; or after `ever`
abbrev pub may_be_whole : List (List ℕ) → Bool
may_be_whole words = if begins_so words then not (length words == 2) else end_with (codes "ever") words

-- a part for each task that `deadlock` asks for; or each that ends with `ever`
abbrev pub waits_in : NameLists → List (List ℕ) → List Lasting
waits_in names (deadlock ∷ but ∷ list ∷ words) = waits_but names (pieces_of comma list)
waits_in names other = waits_but names []

abbrev pub parts_in : NameLists → List (List ℕ) → ℕ
parts_in names words = if begins_so words then length (waits_in names words) else count_by is_ever words

-- the question is not whole, or has too many parts
abbrev pub LastingEndFault : NameLists → List (List ℕ) → QuestionFault → Type 0
LastingEndFault names words fault =
    ((fault ≡ BadForm) × (may_be_whole words ≡ false)) ⊎ ((may_be_whole words ≡ true) × (fault ≡ TooLong) × (most_parts < parts_in names words))

-- the first fault of a text of words, with one blank between each two
abbrev pub IsFaultForEver : NameLists → List ℕ → QuestionFault → ℕ → Type 0
IsFaultForEver names text fault place = FaultAfter (LastingWordFault names) (LastingEndFault names) (length text) [] (pieces_of space text) fault place
