-- A statement that is open at a place of a configuration, and how many parentheses are open in it.
use Rattle.std.specs.Prelude.{ℕ, List, Option}
use Rattle.std.specs.Option.{option_map_or}
use Rattle.fmp_config_statements.specs.declared.parts.Part.{Part}
use Rattle.fmp_config_statements.specs.declared.parts.Scan.{Scan}
use Rattle.fmp_config_statements.specs.declared.table.StatementName.{StatementName}
use Rattle.fmp_config_statements.specs.Parts.{depth_of}

-- what has to follow of the part that is being read, and the parts after it
pub record Opened : Type 0 where
  pub name : StatementName
  pub scan : Scan
  pub rest : List Part

-- the open parentheses: with each token at most one more
abbrev pub depth_in : Option Opened → ℕ
depth_in opened = option_map_or (λ o. depth_of o.scan) opened 0
