-- Words of a question, by those that stand before them: the pattern and the step that they leave open, and how many steps they are.
use Rattle.std.specs.Prelude.{ℕ, ◌+◌, Bool, false, List, [], ◌∷◌, length, sum_by, if◌then◌else◌, codes}
use Rattle.std.specs.List.{list_any}
use Rattle.std.specs.Str.{bytes_eq}
use Rattle.std.specs.Str.Parse.{digits_value}

-- the words with which a pattern ends, and after which one may begin
abbrev pub breaks : List (List ℕ)
breaks = codes "&" ∷ codes "or" ∷ codes "not" ∷ codes "without" ∷ codes "then" ∷ codes "times" ∷ []

abbrev pub is_break : List ℕ → Bool
is_break word = list_any (bytes_eq word) breaks

abbrev pub is_then : List ℕ → Bool
is_then word = bytes_eq word (codes "then")

abbrev pub is_without : List ℕ → Bool
is_without word = bytes_eq word (codes "without")

-- the words after the last one that is such, or all where none is
abbrev pub after_last : (List ℕ → Bool) → List (List ℕ) → List (List ℕ)
after_last is [] = []
after_last is (word ∷ words) = if list_any is words then after_last is words else (if is word then words else word ∷ words)

-- the words of the pattern that is open, and of its step: `refused` is a pattern by itself
abbrev pub pattern_of : List (List ℕ) → List (List ℕ)
pattern_of words = after_last is_break words

abbrev pub step_of : List (List ℕ) → List (List ℕ)
step_of words = after_last is_then words

-- the last of them is this one
abbrev pub end_with : List ℕ → List (List ℕ) → Bool
end_with own [] = false
end_with own (word ∷ []) = bytes_eq word own
end_with own (word ∷ next ∷ words) = end_with own (next ∷ words)

-- ---- how many steps

abbrev pub with_first : List ℕ → List (List (List ℕ)) → List (List (List ℕ))
with_first word [] = (word ∷ []) ∷ []
with_first word (step ∷ steps) = (word ∷ step) ∷ steps

-- the words of each step: those between `then`s
abbrev pub steps_of : List (List ℕ) → List (List (List ℕ))
steps_of [] = [] ∷ []
steps_of (word ∷ words) = if is_then word then [] ∷ steps_of words else with_first word (steps_of words)

-- how often the step of these words stands: the number before `times`, or once
abbrev pub times_of : List (List ℕ) → ℕ
times_of (digits ∷ word ∷ words) = if bytes_eq word (codes "times") then digits_value 10 digits else 1
times_of other = 1

abbrev pub steps_in : List (List ℕ) → ℕ
steps_in words = sum_by times_of (steps_of words)

-- ---- where a word begins

-- the bytes of these words, with the blank after each
abbrev pub bytes_of : List (List ℕ) → ℕ
bytes_of [] = 0
bytes_of (word ∷ words) = length word + 1 + bytes_of words
