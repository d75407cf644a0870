use Rattle.std.proofs.Common.{sym, subst, arith}
use Rattle.fmp_sem.specs.Semaphores.{WaitsAtZero}
use Rattle.fmp_sem.proofs.Sem.poll.Goals as goal

pub returns-clause-at_zero : goal.returns-clause-at_zero
returns-clause-at_zero c h t e = let none = subst WaitsAtZero (sym c.self.view_is) h t e in let falls = c.saturating_sub-self-inside.ensures in omega (arith, none, falls)
