-- A text of questions, one a line: a name, what is expected, and the question.
use Rattle.std.specs.Prelude.{ℕ, ◌+◌, ◌-◌, ◌==◌, Bool, true, false, not, ◌&&◌, ◌||◌, nat_lt, List, [], ◌∷◌, ◌++◌, length, take, drop, Option, None, Some, if◌then◌else◌}
use Rattle.std.specs.Prelude.{codes}
use Rattle.std.specs.List.{list_all, list_any, prefix_len, suffix_len, take_while}
use Rattle.std.specs.Char.{is_ascii_whitespace}
use Rattle.std.specs.Str.{bytes_eq}
use Rattle.fmp_bytes.specs.Bytes.{after, is_of, line_feed, number_sign, pieces_of}
use Rattle.fmp_bytes.specs.declared.classes.Class.TheVariants.{Argument, Blank, Word}
use Rattle.fmp_cli_questions.specs.declared.rows.Expected.{Expected}
use Rattle.fmp_cli_questions.specs.declared.rows.Expected.TheVariants as expected
use Rattle.fmp_cli_questions.specs.declared.reading.RowFault.{RowFault}
use Rattle.fmp_cli_questions.specs.declared.reading.RowKind.{RowKind}
use Rattle.fmp_cli_questions.specs.declared.reading.RowKind.TheVariants.{Form, Twice, TooMany}

-- a question: the number of its line, from 1, and what stands there
pub record Row : Type 0 where
  pub line : ℕ
  pub name : List ℕ
  pub expected : Expected
  pub question : List ℕ

-- ---- a line

-- a text without the white space at its ends, among it the carriage return of a line
abbrev pub unspaced : List ℕ → List ℕ
unspaced text = drop (prefix_len is_ascii_whitespace text) text

abbrev pub trimmed : List ℕ → List ℕ
trimmed text = take (length (unspaced text) - suffix_len is_ascii_whitespace (unspaced text)) (unspaced text)

-- a line that says nothing
abbrev pub is_silent : List ℕ → Bool
is_silent [] = true
is_silent (b ∷ bytes) = b == number_sign

-- the first word, and what follows the blanks after it
abbrev pub is_solid : ℕ → Bool
is_solid b = not (is_of Blank b)

abbrev pub first_word : List ℕ → List ℕ
first_word text = take_while is_solid text

abbrev pub following_word : List ℕ → List ℕ
following_word text = after Blank (drop (prefix_len is_solid text) text)

-- a name: 1 to 64 letters, digits, `_`, `-` and `.`, the first neither `-` nor `.`
abbrev pub full_stop : ℕ
full_stop = 46

abbrev pub is_name_byte : ℕ → Bool
is_name_byte b = is_of Argument b || b == full_stop

abbrev pub is_name : List ℕ → Bool
is_name [] = false
is_name (b ∷ bytes) = is_of Word b && (nat_lt (length bytes) 64 && list_all is_name_byte bytes)

-- what is expected
unfoldable pub expected_in : List ℕ → Option Expected
expected_in word =
    if bytes_eq word (codes "never") then Some expected.Never
    else (if bytes_eq word (codes "shown") then Some expected.Shown else None)

-- the question of these parts of a line
abbrev pub row_of : ℕ → List ℕ → Option Expected → List ℕ → Option Row
row_of line name None question = None
row_of line name (Some e) [] = None
row_of line name (Some e) (q ∷ qs) = if is_name name then Some (record { line = line; name = name; expected = e; question = q ∷ qs }) else None

unfoldable pub row_in : ℕ → List ℕ → Option Row
row_in line text = row_of line (first_word text) (expected_in (first_word (following_word text))) (following_word (following_word text))

-- ---- lines

abbrev pub has_row : List Row → List ℕ → Bool
has_row rows name = list_any (λ row. bytes_eq row.name name) rows

abbrev pub most_rows : ℕ
most_rows = 1000

-- the rows with that of a line, and the fault of the line, where it has one
abbrev pub with_row : List Row → Option Row → List Row × Option RowKind
with_row rows None = (rows, Some Form)
with_row rows (Some row) =
    if has_row rows row.name then (rows, Some Twice)
    else (if nat_lt (length rows) most_rows then (rows ++ row ∷ [], None) else (rows, Some TooMany))

abbrev pub with_trimmed : List Row → ℕ → List ℕ → List Row × Option RowKind
with_trimmed rows number text = if is_silent text then (rows, None) else with_row rows (row_in number text)

unfoldable pub with_line : List Row → ℕ → List ℕ → List Row × Option RowKind
with_line rows number line = with_trimmed rows number (trimmed line)

-- a fault ends the reading
abbrev pub or_fault : ℕ → List Row → Option RowKind → List Row × Option RowFault → List Row × Option RowFault
or_fault number rows None others = others
or_fault number rows (Some kind) others = (rows, Some (record { line = number; kind = kind }))

-- the rows of these lines after others, of which so many were read, up to the first fault
abbrev pub rows_of : List Row → ℕ → List (List ℕ) → List Row × Option RowFault
rows_of rows number [] = (rows, None)
rows_of rows number (line ∷ lines) =
    or_fault (number + 1) (with_line rows (number + 1) line).0 (with_line rows (number + 1) line).1 (rows_of (with_line rows (number + 1) line).0 (number + 1) lines)

-- the rows of a text up to its first fault, and that fault
abbrev pub rows_in : List ℕ → List Row × Option RowFault
rows_in text = rows_of [] 0 (pieces_of line_feed text)
