-- Which words of a line of a trace have which colour.
use Rattle.std.specs.Prelude.{ℕ, zero, suc, ◌+◌, ◌-◌, ◌&&◌, Bool, not, List, [], ◌∷◌, ◌++◌, Option, None, Some, length, nat_eq, if◌then◌else◌, codes}
use Rattle.std.specs.List.{list_all, starts_with}
use Rattle.std.specs.Option.{option_map_or}
use Rattle.fmp_bytes.specs.Bytes.{cut_at, is_of, line_feed, pieces_of, space, escape}
use Rattle.fmp_bytes.specs.declared.classes.Class.TheVariants.{Word}
use Rattle.fmp_cli_colour.specs.declared.painting.Mark.{Mark}
use Rattle.fmp_cli_colour.specs.declared.painting.Mark.TheVariants.{Plain, Refused, Released, Dispatched}

-- the text begins so
abbrev pub begins : List ℕ → List ℕ → Bool
begins text start = starts_with nat_eq text start

-- the name of a code that says no
unfoldable pub is_refusal : List ℕ → Bool
is_refusal word = begins word (codes "E_") && not (begins word (codes "E_OK")) && list_all (is_of Word) word

-- what a word tells, where so many words from it on are told plainly: the processor and who runs there
unfoldable pub mark_of : ℕ → List ℕ → Mark
mark_of (suc n) word = Plain
mark_of zero word =
    if is_refusal word then Refused
    else if begins word (codes "rel=") then Released
    else if begins word (codes "run=") then Dispatched
    else Plain

-- what stands before a word and after it: a blank and the colour, and the end of the colour
abbrev pub before : Mark → List ℕ
before Plain = space ∷ []
before Refused = space ∷ escape ∷ codes "[31m"
before Released = space ∷ escape ∷ codes "[32m"
before Dispatched = space ∷ escape ∷ codes "[36m"

abbrev pub following_word : Mark → List ℕ
following_word Plain = []
following_word mark = escape ∷ codes "[0m"

unfoldable pub painted_word : ℕ → List ℕ → List ℕ
painted_word plain word = before (mark_of plain word) ++ (word ++ following_word (mark_of plain word))

-- the words after the number, each after its blank
abbrev pub painted_words : ℕ → List (List ℕ) → List ℕ
painted_words plain [] = []
painted_words plain (word ∷ words) = painted_word plain word ++ painted_words (plain - 1) words

abbrev pub words_left : Option (List ℕ) → List (List ℕ)
words_left rest = option_map_or (pieces_of space) rest []

-- the line of an event: its number, and after it the words, of which the first two are plain
unfoldable pub painted_event : List ℕ → List ℕ
painted_event line = (cut_at space line).0 ++ painted_words 2 (words_left (cut_at space line).1)

-- a line of a trace, also one that tells of a state: such a one begins with a blank, and has no colours
unfoldable pub painted : List ℕ → List ℕ
painted line = if begins line (codes " ") then line else painted_event line

-- the end of a line, where it has one
abbrev pub line_end : Option (List ℕ) → List ℕ
line_end None = []
line_end (Some rest) = line_feed ∷ []

-- the first line of a text with its line feed, and what is written of it
unfoldable pub first_length : List ℕ → ℕ
first_length text = length (cut_at line_feed text).0 + length (line_end (cut_at line_feed text).1)

unfoldable pub painted_first : List ℕ → List ℕ
painted_first text = painted (cut_at line_feed text).0 ++ line_end (cut_at line_feed text).1
