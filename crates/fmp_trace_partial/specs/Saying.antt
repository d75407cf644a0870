-- Reading a partial trace line by line: each line is guessed, and printed again.
use Rattle.std.specs.Prelude.{ℕ, ◌+◌, Bool, true, not, ◌&&◌, List, [], ◌∷◌, length, Option, None, Some, Result, Ok, Err, nat_lt, ◌==◌, if◌then◌else◌}
use Rattle.std.specs.List.{list_all}
use Rattle.std.specs.Str.{bytes_eq}
use Rattle.fmp_bytes.specs.declared.classes.Class.TheVariants.{Printed}
use Rattle.fmp_bytes.specs.Bytes.{is_of, pieces_of, line_feed}
use Rattle.fmp_bytes.specs.Results.{◌>>=◌}
use Rattle.fmp_text.specs.Limits.{most_bytes, most_events}
use Rattle.fmp_text.specs.declared.fault.TextFault.{TextFault}
use Rattle.fmp_text.specs.declared.fault.TextKind.{TextKind}
use Rattle.fmp_text.specs.declared.fault.TextKind.TheVariants.{BadByte, BadWord, CutShort, TooMany}
use Rattle.fmp_names.specs.Names.{NameLists}
use Rattle.fmp_trace.specs.Reading.{at_line}
use Rattle.fmp_trace_partial.specs.Partial.{bounded_text}
use Rattle.fmp_trace_partial.specs.Said.{guess_said}
use Rattle.fmp_trace_partial.specs.declared.telling.Said.{Said}

unfoldable pub limited : ℕ → Said → Result Said TextKind
limited n s = if nat_lt most_events n then Err TooMany else Ok s

-- the bound of line n is no line before it
abbrev pub is_within : ℕ → Option ℕ → Bool
is_within n None = true
is_within n (Some last) = not (nat_lt last n)

-- a guess that prints the line
unfoldable pub confirmed : NameLists → ℕ → List ℕ → Said → Result Said TextKind
confirmed names n line s = if bytes_eq (bounded_text names n s.kept s.bound s.entry) line && is_within n s.bound then limited n s else Err BadWord

abbrev pub guessed : NameLists → ℕ → List ℕ → Option Said → Result Said TextKind
guessed names n line None = Err BadWord
guessed names n line (Some s) = confirmed names n line s

-- what line n says, without its line feed
unfoldable pub line_said : NameLists → ℕ → List ℕ → Result Said TextKind
line_said names n line = if list_all (is_of Printed) line then guessed names n line (guess_said names line) else Err BadByte

-- what the lines say from line n on. The last line has no line feed
unfoldable pub said_from : NameLists → ℕ → List (List ℕ) → Result (List Said) TextFault
said_from names n [] = Ok []
said_from names n (last ∷ []) = if length last == 0 then Ok [] else Err (record { kind = CutShort; line = n })
said_from names n (line ∷ next ∷ lines) = do
  s ← at_line n (line_said names n line)
  others ← said_from names (n + 1) (next ∷ lines)
  Ok (s ∷ others)

-- all of a text
unfoldable pub said_in : NameLists → List ℕ → Result (List Said) TextFault
said_in names text =
    if nat_lt most_bytes (length text) then Err (record { kind = TooMany; line = 0 }) else said_from names 1 (pieces_of line_feed text)
