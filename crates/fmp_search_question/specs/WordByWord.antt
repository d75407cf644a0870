-- Reading word by word, whatever is kept of the words so far: what the words make of it, or the first fault with its place.
use Rattle.std.specs.Prelude.{ℕ, ◌-◌, List, [], ◌∷◌, length, Option, None, Some, Result, Ok, Err}
use Rattle.std.specs.List.{join_with_byte}
use Rattle.fmp_bytes.specs.Bytes.{space}
use Rattle.fmp_search_question.specs.declared.fault.QuestionFault.{QuestionFault}

-- the fault, where there is one
abbrev pub fault_of : {D : Type 0} → Result D QuestionFault → Option QuestionFault
fault_of (Ok d) = None
fault_of (Err fault) = Some fault

-- a fault, and the number of the byte from 0 at which the word at fault begins
abbrev pub at_place : {D : Type 0} → ℕ → Result D QuestionFault → Result D (QuestionFault × ℕ)
at_place place (Ok d) = Ok d
at_place place (Err fault) = Err (fault, place)

abbrev pub result_then : {A B E : Type 0} → (A → Result B E) → Result A E → Result B E
result_then f (Ok a) = f a
result_then f (Err e) = Err e

-- the last words of a text of so many bytes, by what one word more makes of what was read
abbrev pub after_words : {D : Type 0} → (D → List ℕ → Result D QuestionFault) → ℕ → D → List (List ℕ) → Result D (QuestionFault × ℕ)
after_words after bytes d [] = Ok d
after_words after bytes d (word ∷ words) =
    result_then (λ e. after_words after bytes e words) (at_place (bytes - length (join_with_byte space (word ∷ words))) (after d word))
