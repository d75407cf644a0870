use Rattle.std.proofs.Common.{◌≡◌, ◌==◌, drop}
use Rattle.std.specs.List.{list_any, starts_with}
use Rattle.fmp_cli_help.proofs.left_out.begins_with_one.Given as goal

-- one of those that are left is found, or none of all
abbrev pub invariant-loop-beginning : goal.invariant-loop-beginning
invariant-loop-beginning l =
    list_any (λ beginning. starts_with ◌==◌ l.word beginning.now) (drop l.beginning-index l.beginnings) ≡ list_any (λ beginning. starts_with ◌==◌ l.fn.word beginning.now) l.fn.beginnings
