-- Where a pattern ends with a word more. Each word may stand after those before it: words of which one is of a state ask for something of the state
-- together, and any others stand so in the line of a record.
use Rattle.std.specs.Prelude.{ℕ, ◌==◌, Bool, false, not, ◌||◌, List, [], ◌∷◌, ◌++◌, filter, length, Option, None, Some, if◌then◌else◌, codes}
use Rattle.std.specs.Str.{bytes_eq}
use Rattle.fmp_bytes.specs.Bytes.{pieces_of, space}
use Rattle.fmp_names.specs.Names.{NameLists}
use Rattle.fmp_fact_words.specs.Asking.{asked_by}
use Rattle.fmp_fact_words.specs.Speaking.{must_ask}
use Rattle.fmp_search_pattern.specs.declared.spot.Spot.{Spot}
use Rattle.fmp_search_pattern.specs.declared.spot.Spot.TheVariants.{Fact}
use Rattle.fmp_search_pattern.specs.Forms.{spot_of}
use Rattle.fmp_search_pattern.specs.Spots.{stepped}

-- the pattern with a word more
abbrev pub longer : List ℕ → List ℕ → List ℕ
longer pattern word = (if length pattern == 0 then space ∷ [] else pattern) ++ word ++ space ∷ []

-- the pieces that have a byte
abbrev pub filled : List (List ℕ) → List (List ℕ)
filled pieces = filter (λ w. not (length w == 0)) pieces

-- the words of a text, which stand between blanks
abbrev pub words_of : List ℕ → List (List ℕ)
words_of text = filled (pieces_of space text)

-- the word `end` alone, which asks whether nothing can change any more
abbrev pub is_end : List (List ℕ) → Bool
is_end (word ∷ []) = bytes_eq word (codes "end")
is_end other = false

-- words that ask for something of a state: for the end, or for its facts
abbrev pub are_asking : NameLists → List (List ℕ) → Bool
are_asking names words = is_end words || not (length (asked_by names words) == 0)

-- where the last of some words stands: in a row of facts where they have to ask for something, and do
unfoldable pub last_spot : NameLists → List (List ℕ) → List ℕ → Option Spot
last_spot names words word = if must_ask names words then (if are_asking names words then Some Fact else None) else spot_of names word

-- where a pattern ends with a word more, where it ended somewhere. None where the word may not stand there
abbrev pub next_spot : NameLists → List ℕ → Spot → List ℕ → Option Spot
next_spot names pattern place word = stepped place (last_spot names (words_of (longer pattern word)) word)
