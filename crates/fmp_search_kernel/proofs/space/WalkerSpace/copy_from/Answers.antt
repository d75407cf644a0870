use Rattle.std.proofs.Common.{refl}
use Rattle.fmp_search_kernel.proofs.space.WalkerSpace.copy_from.Goals as goal

pub returns-then-not-copy_from-clause-origin : goal.returns-then-not-copy_from-clause-origin
returns-then-not-copy_from-clause-origin c = rw (← c.self.view_is) refl

pub returns-clause-origin : goal.returns-clause-origin
returns-clause-origin c = rw (← c.self.view_is) refl
