-- The words that patterns may have: what is no name, no call, no code and no word of a trace would never be found.
use Rattle.std.specs.Prelude.{ℕ, ◌+◌, ◌==◌, Bool, true, false, not, ◌&&◌, ◌||◌, nat_le, is_some, List, [], ◌∷◌, length, take, drop, position, Option, None, Some}
use Rattle.std.specs.List.{list_all, list_any, slice_split}
use Rattle.std.specs.Option.{option_map_or}
use Rattle.std.specs.Char.{is_ascii_digit}
use Rattle.std.specs.Str.{bytes_eq}
use Rattle.fmp_bytes.specs.declared.classes.Class.TheVariants.{Printed, Word}
use Rattle.fmp_bytes.specs.Bytes.{is_of, letter_p}
use Rattle.fmp_calls.specs.Table.{named}
use Rattle.fmp_search_pattern.specs.Items.{is_code}
use Rattle.fmp_names.specs.Names.{NameLists, is_object}
use Rattle.fmp_search_pattern.specs.declared.words.TheConstants.{TRACE_WORDS}

abbrev pub star : ℕ
star = 42

-- a word of a pattern is of printed bytes
abbrev pub is_printed : List ℕ → Bool
is_printed word = not (length word == 0) && list_all (is_of Printed) word

-- `P` and the number of a processor
abbrev pub is_processor : ℕ → List ℕ → Bool
is_processor n [] = false
is_processor n (p ∷ []) = false
is_processor n (p ∷ d ∷ []) = p == letter_p && (nat_le 49 d && nat_le d (48 + n))
is_processor n (p ∷ d ∷ e ∷ rest) = false

-- a name of the configuration, a processor, a call, a code, or a word of a trace or of a state
unfoldable pub is_known : NameLists → List ℕ → Bool
is_known names run =
    is_object names run || is_processor names.processors run || is_some (named run) || is_code run
    || list_any (λ w. bytes_eq w.now run) TRACE_WORDS

abbrev pub begins_with_digit : List ℕ → Bool
begins_with_digit [] = true
begins_with_digit (b ∷ run) = is_ascii_digit b

-- no letter, digit, `_` or star
abbrev pub is_outside : ℕ → Bool
is_outside b = not (is_of Word b || b == star)

-- the letters, digits, `_` and stars at the front of a word, and what follows the byte after them
unfoldable pub cut_run : List ℕ → List ℕ × Option (List ℕ)
cut_run word = option_map_or (λ i. (take i word, Some (drop (i + 1) word))) (position is_outside word) (word, None)

-- the runs of letters, digits, `_` and stars of a word
unfoldable pub runs_of : List ℕ → List (List ℕ)
runs_of word = slice_split is_outside word

-- letters, digits, `_` and stars in a row: they touch a star, are a number, or are known
unfoldable pub is_fine : NameLists → List ℕ → Bool
is_fine names run = list_any (λ b. b == star) run || begins_with_digit run || is_known names run
