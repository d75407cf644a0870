-- What of a state changed, by the lines of two states. docs/FORMATS.md has its form.
use Rattle.std.specs.Prelude.{◌≡◌, ℕ, Bool, true, false, not, ◌&&◌, Option, List, [], ◌++◌, if◌then◌else◌, codes}
use Rattle.std.specs.List.{flat_map, list_any}
use Rattle.std.specs.Option.{option_map_or}
use Rattle.std.specs.Str.{bytes_eq}
use Rattle.fmp_bytes.specs.Bytes.{after, following, letter_p, line_feed, pieces_of, prefix}
use Rattle.fmp_bytes.specs.Numerals.{are_digits}
use Rattle.fmp_bytes.specs.declared.classes.Class.TheVariants.{Blank, Word}
use Rattle.fmp_show_changes.specs.declared.lines.Rule.{Rule}
use Rattle.fmp_show_changes.specs.declared.lines.Rule.TheVariants as rule

-- The lines of a text. One that ends with a line feed has an empty line after it, and so has one without a byte: of this nothing is told,
-- since both states have it.
abbrev pub lines_of : List ℕ → List (List ℕ)
lines_of text = pieces_of line_feed text

abbrev pub lines_left : Option (List ℕ) → List (List ℕ)
lines_left text = option_map_or lines_of text []

-- what a line is about: its first word
abbrev pub name_of : List ℕ → List ℕ
name_of line = prefix Word (after Blank line)

-- it is about a processor: its first word is `P` and a number, which no object is called
abbrev pub is_processor : List ℕ → Bool
is_processor line = option_map_or (are_digits 10) (following letter_p (name_of line)) false

-- two lines are the same, or about the same
abbrev pub is_same : Rule → List ℕ → List ℕ → Bool
is_same rule.New one other = bytes_eq one other
is_same rule.Gone one other = bytes_eq (name_of one) (name_of other)

-- one of the lines is the same
abbrev pub has_line : Rule → List (List ℕ) → List ℕ → Bool
has_line r lines line = list_any (λ l. is_same r l line) lines

-- a line with its line feed, unless it is known
abbrev pub new_text : Bool → List ℕ → List ℕ
new_text known line = if known then [] else line ++ codes "\n"

-- the name of a line, unless it is known
abbrev pub gone_text : Bool → List ℕ → List ℕ
gone_text known line = if known then [] else codes "  " ++ name_of line ++ codes "\n"

-- what is told of a line, where the other state has the same or not. The lines of processors are told in any case
abbrev pub line_reported : Rule → Bool → List ℕ → List ℕ
line_reported rule.New found line = new_text (found && not (is_processor line)) line
line_reported rule.Gone found line = gone_text found line

-- what is told of each of these lines, where the other state has those
abbrev pub report_of : Rule → List (List ℕ) → List (List ℕ) → List ℕ
report_of r others lines = flat_map (λ line. line_reported r (has_line r others line) line) lines

-- the lines that are new or differ, in their order, then the names of those that are gone, in theirs, and the line that ends it
unfoldable pub changes_text : List ℕ → List ℕ → List ℕ
changes_text old new = report_of rule.New (lines_of old) (lines_of new) ++ report_of rule.Gone (lines_of new) (lines_of old) ++ codes "  end\n"

-- each test that one of the few lines passes one of all passes
abbrev pub IsWithin : List (List ℕ) → List (List ℕ) → Type 0
IsWithin few all = (p : List ℕ → Bool) → list_any p few ≡ true → list_any p all ≡ true
