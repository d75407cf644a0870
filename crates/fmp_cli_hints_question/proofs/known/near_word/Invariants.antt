use Rattle.std.proofs.Common.{◌≡◌, drop, map}
use Rattle.std.specs.Option.{option_copied}
use Rattle.fmp_cli_help.specs.Near.{nearest}
use Rattle.fmp_cli_hints_question.proofs.known.near_word.Given as goal

abbrev pub invariant-loop-it : goal.invariant-loop-it
invariant-loop-it l =
    nearest l.word (option_copied l.best) (map (λ w. w.now) (drop l.it-index l.words)) ≡ nearest l.word (option_copied l.before) (map (λ w. w.now) l.words)
