use Rattle.std.proofs.Common.{refl, ◌∙◌}
use Rattle.fmp_trace_orders.proofs.plays.LinePlayerPlayer.restart.Goals as goal

pub returns-then-not-copy_from-clause-begins : goal.returns-then-not-copy_from-clause-begins
returns-then-not-copy_from-clause-begins c = rw (← c.self.view_is) refl

pub returns-clause-there : goal.returns-clause-there
returns-clause-there c = let same = c.if-not-copy_from.ensures.copied refl ∙ c.self.invariant.2 in rw (← c.self.view_is, same) refl

pub returns-clause-begins : goal.returns-clause-begins
returns-clause-begins c = rw (← c.self.view_is) refl
