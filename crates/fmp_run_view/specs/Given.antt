-- The lines that were given where a trace differs from the machine's own.
use Rattle.std.specs.Prelude.{ℕ, List, [], ◌∷◌, ◌++◌, codes, decimal, if◌then◌else◌}
use Rattle.std.specs.Str.{bytes_eq}
use Rattle.fmp_codes.specs.declared.records.Record.{Record}
use Rattle.fmp_trace_check.specs.Differences.{Difference}
use Rattle.fmp_names.specs.Names.{NameLists}
use Rattle.fmp_trace.specs.Lines.{core_text}

-- a line that was given, after its number
unfoldable pub given_line : ℕ → List ℕ → List ℕ
given_line n line = decimal n ++ codes " " ++ line ++ codes "\n"

-- those of some differences
abbrev pub given_text : List Difference → List ℕ
given_text [] = []
given_text (d ∷ ds) = given_line d.number d.line ++ given_text ds

-- that of line n, where this record is the machine's and the line does not print it
abbrev pub given_beside : NameLists → ℕ → Record → List ℕ → List ℕ
given_beside names n r line = if bytes_eq (core_text names n r) line then [] else given_line n line
