use Rattle.std.proofs.Common.{refl}
use Rattle.fmp_trace_orders.proofs.plays.LinePlayerPlayer.copy_from.Goals as goal

pub returns-then-not-copy_from-clause-begins : goal.returns-then-not-copy_from-clause-begins
returns-then-not-copy_from-clause-begins c = rw (← c.self.view_is) refl

pub returns-clause-begins : goal.returns-clause-begins
returns-clause-begins c = rw (← c.self.view_is) refl
