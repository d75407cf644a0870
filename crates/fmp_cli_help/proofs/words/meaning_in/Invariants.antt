use Rattle.std.proofs.Common.{◌≡◌, drop}
use Rattle.std.specs.List.{list_any}
use Rattle.std.specs.Str.{bytes_eq}
use Rattle.fmp_cli_help.proofs.words.meaning_in.Given as goal

-- one of those that are left is found, or none of all
abbrev pub invariant-loop-row : goal.invariant-loop-row
invariant-loop-row l =
    list_any (λ row. bytes_eq row.0.now l.word) (drop l.row-index l.rows) ≡ list_any (λ row. bytes_eq row.0.now l.fn.word) l.fn.rows
