use Rattle.std.proofs.Common.{◌≡◌, drop}
use Rattle.fmp_config.specs.Numbers.{number_step, all_numbers}
use Rattle.fmp_config_statements.specs.Folds.{each}
use Rattle.fmp_config.proofs.numbers.all_numbers.Given as goal

abbrev pub invariant-loop-word : goal.invariant-loop-word
invariant-loop-word l = each (number_step l.parts) tt (drop l.word-index l.words) ≡ all_numbers l.fn.parts l.fn.words
