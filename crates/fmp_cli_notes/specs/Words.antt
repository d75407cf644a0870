-- Words that no order of `explore` has, or only with `--spurious`.
use Rattle.std.specs.Prelude.{ℕ, ◌==◌, Bool, false, ◌||◌, List, [], ◌∷◌, Option, None, Some, codes}
use Rattle.std.specs.List.{list_any, starts_with}
use Rattle.std.specs.Str.{bytes_eq}
use Rattle.fmp_bytes.specs.Bytes.{pieces_of, space}
use Rattle.fmp_search_pattern.specs.declared.question.Step.{Step}
use Rattle.fmp_search_pattern.specs.Items.{Item}
use Rattle.fmp_cli_notes.specs.Patterns.{words_of}

-- the bytes stand in a text
abbrev pub has_bytes : List ℕ → List ℕ → Bool
has_bytes bytes [] = starts_with ◌==◌ [] bytes
has_bytes bytes (b ∷ text) = starts_with ◌==◌ (b ∷ text) bytes || has_bytes bytes text

-- a word of a text between blanks
abbrev pub has_word : List ℕ → List ℕ → Bool
has_word word text = list_any (λ it. bytes_eq it word) (pieces_of space text)

-- a record has these words only where an event was given at which nothing could happen
unfoldable pub is_given_alone : List ℕ → Bool
is_given_alone words = has_word (codes "idle") words || has_bytes (codes "tick none") words

-- the words of an interrupt which changes nothing: orders have them with `--spurious` alone
unfoldable pub is_spurious : List ℕ → Bool
is_spurious words = has_bytes (codes "ipi none") words || has_bytes (codes "ipi held") words

-- a question asks for them, also behind `not` or `without`
abbrev pub is_item_spurious : Item → Bool
is_item_spurious i = is_spurious (words_of i.wanted)

abbrev pub is_part_spurious : List Item → Bool
is_part_spurious part = list_any is_item_spurious part

abbrev pub is_moment_spurious : List (List Item) → Bool
is_moment_spurious moment = list_any is_part_spurious moment

abbrev pub is_without_spurious : Option (List (List Item)) → Bool
is_without_spurious None = false
is_without_spurious (Some moment) = is_moment_spurious moment

abbrev pub is_step_spurious : Step → Bool
is_step_spurious s = is_without_spurious s.without || is_moment_spurious s.moment

abbrev pub asks_spurious : List Step → Bool
asks_spurious question = list_any is_step_spurious question
