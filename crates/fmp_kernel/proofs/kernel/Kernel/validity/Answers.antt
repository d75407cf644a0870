use Rattle.std.proofs.Common.{subst}
use Rattle.fmp_law_safety.specs.Safe.{Safe}
use Rattle.fmp_kernel_order.specs.Queues.{listed}
use Rattle.fmp_law_lists.specs.Laws.{ListsAreRight}
use Rattle.fmp_kernel.proofs.Kept.{kept_safe, kept_lists}
use Rattle.fmp_kernel.proofs.kernel.Kernel.validity.Goals as goal

pub returns-clause-safe : goal.returns-clause-safe
returns-clause-safe c = subst (Safe listed) c.self.view_is (kept_safe _ c.self.invariant)

pub returns-clause-lists : goal.returns-clause-lists
returns-clause-lists c = subst ListsAreRight c.self.view_is (kept_lists _ c.self.invariant)
