-- A statement whose tokens are being read.
use Rattle.std.specs.Prelude.{ℕ, Bool, ◌&&◌, List, [], ◌∷◌, Result, Ok, Err, length, ◌==◌, if◌then◌else◌}
use Rattle.std.specs.Option.{option_map_or}
use Rattle.fmp_config_statements.specs.Lexing.{Lexeme}
use Rattle.fmp_config_statements.specs.declared.fault.ConfigKind.TheVariants.{Syntax}
use Rattle.fmp_config_statements.specs.declared.parts.Part.{Part}
use Rattle.fmp_config_statements.specs.declared.parts.Scan.{Scan}
use Rattle.fmp_config_statements.specs.declared.parts.Scan.TheVariants.{Nothing}
use Rattle.fmp_config_statements.specs.declared.table.StatementName.{StatementName}
use Rattle.fmp_config_statements.specs.Faults.{Fault, fault_at}
use Rattle.fmp_config_statements.specs.Parts.{scan_of, next_of, may_end, is_nothing}
use Rattle.fmp_config_statements.specs.Pieces.{Pieces, no_pieces, kept_from}
use Rattle.fmp_config_statements.specs.Table.{parts_of}
use Rattle.fmp_config_statements.specs.Words.{word_of}

-- a statement: its name, the line of its first word, the part that is being read, the parts after it, and the words that were read
pub record Form : Type 0 where
  pub name : StatementName
  pub line : ℕ
  pub scan : Scan
  pub rest : List Part
  pub pieces : Pieces

-- after its first word
abbrev pub begun : StatementName → ℕ → Form
begun name line = record { name = name; line = line; scan = Nothing; rest = parts_of name; pieces = no_pieces }

-- nothing more has to follow
unfoldable pub is_complete : Form → Bool
is_complete f = length f.rest == 0 && is_nothing f.scan

-- from one place of a part to another with a token
abbrev pub advanced : Form → Scan → Scan → Lexeme → Form
advanced f from to t = record f { scan = to; pieces = kept_from from (word_of t) f.pieces }

-- a token that fits nothing
abbrev pub misfit : Lexeme → Fault
misfit t = fault_at Syntax (word_of t)

-- a token of the first of these parts
unfoldable pub next_part : Form → List Part → Lexeme → Result Form Fault
next_part f [] t = Err (misfit t)
next_part f (part ∷ rest) t =
    option_map_or (λ next. Ok (advanced (record f { rest = rest }) (scan_of part) next t)) (next_of (scan_of part) t) (Err (misfit t))

-- a token of the part that is being read, or where that can end of the next one
unfoldable pub form_step : Form → Lexeme → Result Form Fault
form_step f t =
    option_map_or (λ next. Ok (advanced f f.scan next t)) (next_of f.scan t) (if may_end f.scan then next_part f f.rest t else Err (misfit t))
