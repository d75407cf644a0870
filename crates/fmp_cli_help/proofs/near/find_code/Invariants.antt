use Rattle.std.proofs.Common.{◌≡◌, ◌==◌, drop, find}
use Rattle.std.specs.List.{starts_with}
use Rattle.fmp_codes.specs.Codes.{name_of}
use Rattle.fmp_cli_help.proofs.near.find_code.Given as goal

-- the first of those that are left is that of all
abbrev pub invariant-loop-code : goal.invariant-loop-code
invariant-loop-code l =
    find (λ code. starts_with ◌==◌ (name_of code) l.word) (drop l.code-index l.all) ≡ find (λ code. starts_with ◌==◌ (name_of code) l.fn.word) l.fn.all
