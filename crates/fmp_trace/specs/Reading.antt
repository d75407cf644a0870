-- Reading a trace line by line: each line is guessed, and printed again.
use Rattle.std.specs.Prelude.{◌⊎◌, ◌≡◌, ℕ, ◌+◌, List, [], ◌∷◌, length, Option, None, Some, Result, Ok, Err, nat_lt, ◌==◌, if◌then◌else◌}
use Rattle.std.specs.List.{list_all}
use Rattle.std.specs.Str.{bytes_eq}
use Rattle.fmp_codes.specs.declared.records.Record.{Record}
use Rattle.fmp_bytes.specs.declared.classes.Class.TheVariants.{Printed}
use Rattle.fmp_bytes.specs.Bytes.{is_of, pieces_of, line_feed}
use Rattle.fmp_bytes.specs.Results.{◌>>=◌}
use Rattle.fmp_text.specs.Limits.{most_bytes, most_events}
use Rattle.fmp_text.specs.declared.fault.TextFault.{TextFault}
use Rattle.fmp_text.specs.declared.fault.TextKind.{TextKind}
use Rattle.fmp_text.specs.declared.fault.TextKind.TheVariants.{BadByte, BadWord, CutShort, TooMany}
use Rattle.fmp_names.specs.Names.{NameLists}
use Rattle.fmp_text.specs.Events.{IsMemory}
use Rattle.fmp_trace.specs.Lines.{core_text}
use Rattle.fmp_trace.specs.Guess.{guess}

-- the fault of a line, with its number
abbrev pub at_line : {A : Type 0} → ℕ → Result A TextKind → Result A TextFault
at_line n (Ok x) = Ok x
at_line n (Err kind) = Err (record { kind = kind; line = n })

-- an error is the fault that reading gives, or want of memory
abbrev pub Fails : {Y : Type 0} → TextFault → Result Y TextFault → Type 0
Fails fault read = (read ≡ Err fault) ⊎ IsMemory fault

-- what a function returned, seen by view, is what reading gives, unless memory ran out
abbrev pub GivesOrFails : {X Y : Type 0} → (X → Y) → Result X TextFault → Result Y TextFault → Type 0
GivesOrFails view (Ok x) read = read ≡ Ok (view x)
GivesOrFails view (Err e) read = Fails e read

-- a text was gone over: it reads as some records, or has the fault, unless memory ran out
abbrev pub Passes : {T : Type 0} → Result T TextFault → Result (List Record) TextFault → Type 0
Passes (Ok done) read = (records : List Record) × (read ≡ Ok records)
Passes (Err fault) read = Fails fault read

-- a record, where there is room for a line of this number
unfoldable pub limited : ℕ → Record → Result Record TextKind
limited n r = if nat_lt most_events n then Err TooMany else Ok r

-- a guess that prints the line
unfoldable pub confirmed : NameLists → ℕ → List ℕ → Record → Result Record TextKind
confirmed names n line r = if bytes_eq (core_text names n r) line then limited n r else Err BadWord

abbrev pub guessed : NameLists → ℕ → List ℕ → Option Record → Result Record TextKind
guessed names n line None = Err BadWord
guessed names n line (Some r) = confirmed names n line r

-- the record of line n without its line feed
unfoldable pub line_record : NameLists → ℕ → List ℕ → Result Record TextKind
line_record names n line = if list_all (is_of Printed) line then guessed names n line (guess names line) else Err BadByte

-- the records of the lines from line n on. The last line has no line feed
unfoldable pub records_from : NameLists → ℕ → List (List ℕ) → Result (List Record) TextFault
records_from names n [] = Ok []
records_from names n (last ∷ []) = if length last == 0 then Ok [] else Err (record { kind = CutShort; line = n })
records_from names n (line ∷ next ∷ lines) = do
  r ← at_line n (line_record names n line)
  others ← records_from names (n + 1) (next ∷ lines)
  Ok (r ∷ others)

-- all of a text
unfoldable pub records_in : NameLists → List ℕ → Result (List Record) TextFault
records_in names text =
    if nat_lt most_bytes (length text) then Err (record { kind = TooMany; line = 0 }) else records_from names 1 (pieces_of line_feed text)
