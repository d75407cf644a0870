use Rattle.std.proofs.Common.{◌≡◌, replicate}
use Rattle.fmp_rules.specs.World.{no_processor}
use Rattle.fmp_dispatch.proofs.dispatch.blank_processors.Given as goal

abbrev pub invariant-loop-index : goal.invariant-loop-index
invariant-loop-index l = l.processors.items ≡ replicate l._index no_processor
