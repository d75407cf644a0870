use Rattle.std.proofs.Common.{◌≡◌, drop}
use Rattle.fmp_config.specs.Numbers.{member_step, members_in}
use Rattle.fmp_config_statements.specs.Folds.{each}
use Rattle.fmp_config.proofs.numbers.members_in.Given as goal

abbrev pub invariant-loop-word : goal.invariant-loop-word
invariant-loop-word l = each (member_step l.parts l.line) l.members (drop l.word-index l.words) ≡ members_in l.fn.parts l.fn.line l.fn.words
