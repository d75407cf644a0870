use Rattle.std.proofs.Common.{◌≡◌, drop, find}
use Rattle.std.specs.Str.{bytes_eq}
use Rattle.fmp_config_statements.specs.Faults.{code_of}
use Rattle.fmp_cli_help.proofs.faults.config_kind_in.Given as goal

-- the first of those that are left is that of all
abbrev pub invariant-loop-kind : goal.invariant-loop-kind
invariant-loop-kind l =
    find (λ kind. bytes_eq (code_of kind) l.word) (drop l.kind-index l.kinds) ≡ find (λ kind. bytes_eq (code_of kind) l.fn.word) l.fn.kinds
