use Rattle.std.proofs.Common.{◌≡◌, drop}
use Rattle.fmp_config_statements.specs.Attributes.{attribute_step, attributes_in}
use Rattle.fmp_config_statements.specs.Folds.{each}
use Rattle.fmp_config_statements.proofs.attributes.attributes_in.Given as goal

abbrev pub invariant-loop-word : goal.invariant-loop-word
invariant-loop-word l = each (attribute_step l.allowed) l.found (drop l.word-index l.words) ≡ attributes_in l.fn.allowed l.fn.words
