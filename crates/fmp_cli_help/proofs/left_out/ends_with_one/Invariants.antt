use Rattle.std.proofs.Common.{◌≡◌, ◌==◌, drop}
use Rattle.std.specs.List.{list_any, ends_with}
use Rattle.fmp_cli_help.proofs.left_out.ends_with_one.Given as goal

-- one of those that are left is found, or none of all
abbrev pub invariant-loop-ending : goal.invariant-loop-ending
invariant-loop-ending l =
    list_any (λ ending. ends_with ◌==◌ l.word ending.now) (drop l.ending-index l.endings) ≡ list_any (λ ending. ends_with ◌==◌ l.fn.word ending.now) l.fn.endings
