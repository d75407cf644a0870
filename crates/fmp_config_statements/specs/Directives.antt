-- Directives: lines that begin with `#`.
use Rattle.std.specs.Prelude.{ℕ, Option, Some, None, option_and_then, Result, Ok, Err, nat_le, codes, if◌then◌else◌}
use Rattle.std.specs.Option.{option_map_or}
use Rattle.std.specs.Str.{bytes_eq}
use Rattle.fmp_names.specs.Names.{is_name}
use Rattle.fmp_config_statements.specs.Lexing.{Lexeme}
use Rattle.fmp_config_statements.specs.declared.directive.Directive.{Directive}
use Rattle.fmp_config_statements.specs.declared.directive.Directive.TheVariants.{Marked, Naming, Numbering, Defining, Skipped}
use Rattle.fmp_config_statements.specs.declared.fault.ConfigKind.TheVariants.{Syntax}
use Rattle.fmp_config_statements.specs.Faults.{Fault, fault_of_line, unknown_directive}
use Rattle.fmp_config_statements.specs.Numbers.{numeral}
use Rattle.fmp_config_statements.specs.Words.{Word, word_of, is_identifier_kind}

-- the number after the name of a `#define`
unfoldable pub defined_number : Lexeme → Option ℕ
defined_number t = option_and_then (λ n. if nat_le n 4294967295 then Some n else None) (numeral t.text)

-- the first word after the `#`
unfoldable pub named : ℕ → Lexeme → Result Directive Fault
named line t =
    if is_identifier_kind t.kind
    then (if bytes_eq t.text (codes "include") then Ok Skipped
    else (if bytes_eq t.text (codes "define") then Ok (Naming line) else Err (unknown_directive line t.text)))
    else Err (fault_of_line Syntax line)

-- the second word of a `#define`
unfoldable pub named_number : ℕ → Lexeme → Directive
named_number line t = if is_name t.text then Numbering line (word_of t) else Skipped

-- the third word
unfoldable pub numbered : ℕ → Word → Lexeme → Directive
numbered line name t = option_map_or (λ n. Defining line name n) (defined_number t) Skipped

-- a directive with one token more
abbrev pub next_directive : Directive → Lexeme → Result Directive Fault
next_directive (Marked line) t = named line t
next_directive (Naming line) t = Ok (named_number line t)
next_directive (Numbering line name) t = Ok (numbered line name t)
next_directive _ t = Ok Skipped
