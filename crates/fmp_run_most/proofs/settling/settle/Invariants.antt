use Rattle.std.proofs.Common.{[]}
use Rattle.fmp_search_orders.specs.Places.{origin}
use Rattle.fmp_run_most.proofs.Kept.{Kept}
use Rattle.fmp_run_most.proofs.settling.settle.Given as goal

-- as many of the first figures as there were passes go no further
abbrev pub invariant-loop-at : goal.invariant-loop-at
invariant-loop-at g l = Kept (origin l.sizing.config.now l.sizing.scripts.now l.sizing.rules []) l.fn.within.turns.count l.sizing.figures.now l.bounds l.at l.whole
