-- Which rows of words speak of a state, and so have to ask for facts. The other rows are patterns of the record.
use Rattle.std.specs.Prelude.{ℕ, ◌==◌, Bool, false, not, ◌&&◌, ◌||◌, nat_le, is_some, List, [], ◌∷◌, Option, Some, None, if◌then◌else◌, codes}
use Rattle.std.specs.List.{list_all, list_any}
use Rattle.std.specs.Str.{bytes_eq}
use Rattle.fmp_bytes.specs.Bytes.{asterisk, cut_at, equals_sign}
use Rattle.fmp_names.specs.Names.{NameLists}
use Rattle.fmp_fact_words.specs.Asking.{is_star, thing_in}
use Rattle.fmp_fact_words.specs.Reading.{key_rows, processor_in, row_of, words}

abbrev pub has_star : List ℕ → Bool
has_star word = list_any (λ b. b == asterisk) word

-- a small letter, a digit, `-`, `=` or a star: a word of a state may be of these alone, but for names
abbrev pub is_small : ℕ → Bool
is_small b = (nat_le 97 b && nat_le b 122) || (nat_le 48 b && nat_le b 57) || b == 45 || b == equals_sign || b == asterisk

-- a word with a star that may be one of a state
abbrev pub may_be_of_state : List ℕ → Bool
may_be_of_state word = has_star word && list_all is_small word

-- what stands before a `=`, and after it. `run=` and the name of a task stand in a record, too
abbrev pub is_valued : List ℕ → List ℕ → Bool
is_valued key value = if bytes_eq key (codes "run") then bytes_eq value (codes "-") else is_some (row_of key_rows key) || may_be_of_state key

abbrev pub is_cut_of_state : List ℕ → List ℕ × Option (List ℕ) → Bool
is_cut_of_state word (key, Some value) = is_valued key value
is_cut_of_state word (key, None) = is_some (row_of words word) || bytes_eq word (codes "end") || may_be_of_state word

-- a word stands in no record, but in a state; or it has a star, and may
unfoldable pub is_of_state : List ℕ → Bool
is_of_state word = not (is_star word) && is_cut_of_state word (cut_at equals_sign word)

-- `run=` and something after it
abbrev pub is_cut_run : List ℕ × Option (List ℕ) → Bool
is_cut_run (key, None) = false
is_cut_run (key, Some value) = bytes_eq key (codes "run")

unfoldable pub is_run : List ℕ → Bool
is_run word = is_cut_run (cut_at equals_sign word)

-- and that has a star, and is none alone
abbrev pub is_cut_open : List ℕ × Option (List ℕ) → Bool
is_cut_open (key, None) = false
is_cut_open (key, Some value) = has_star value && not (is_star value)

unfoldable pub is_open : List ℕ → Bool
is_open word = is_cut_open (cut_at equals_sign word)

abbrev pub is_open_row : List (List ℕ) → Bool
is_open_row (word ∷ []) = is_open word
is_open_row (first ∷ word ∷ []) = is_open word
is_open_row other = false

module _ (names : NameLists) where
  abbrev pub is_thing : List ℕ → Bool
  is_thing word = is_some (thing_in names word)

  -- some word of a row is of a state. The name of a thing at the front is that thing, whatever it is called
  abbrev pub are_of_state : List (List ℕ) → Bool
  are_of_state [] = false
  are_of_state (word ∷ words) = (not (is_thing word) && is_of_state word) || list_any is_of_state words

  -- who runs, of one processor or of any
  abbrev pub is_run_row : List (List ℕ) → Bool
  is_run_row (word ∷ []) = is_run word
  is_run_row (first ∷ word ∷ []) = is_some (processor_in names.processors first) && is_run word
  is_run_row other = false

  -- a row that may ask for facts, and one that has to, since no record has it
  unfoldable pub may_ask : List (List ℕ) → Bool
  may_ask words = are_of_state words || is_run_row words

  unfoldable pub must_ask : List (List ℕ) → Bool
  must_ask words = are_of_state words || (is_run_row words && is_open_row words)
