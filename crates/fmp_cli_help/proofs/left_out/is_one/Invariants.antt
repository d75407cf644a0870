use Rattle.std.proofs.Common.{◌≡◌, drop}
use Rattle.std.specs.List.{list_any}
use Rattle.std.specs.Str.{bytes_eq}
use Rattle.fmp_cli_help.proofs.left_out.is_one.Given as goal

-- one of those that are left is found, or none of all
abbrev pub invariant-loop-name : goal.invariant-loop-name
invariant-loop-name l =
    list_any (λ name. bytes_eq name.now l.word) (drop l.name-index l.names) ≡ list_any (λ name. bytes_eq name.now l.fn.word) l.fn.names
