use Rattle.std.proofs.Common.{◌≡◌, true, false, sym, ap, ◌∙◌}
use Rattle.fmp_waitq.specs.Queue.{has_waiter}
use Rattle.fmp_sem.specs.Semaphores.{SemaphoreState}
use Rattle.fmp_sem.proofs.Waiting.{nobody_waits}
use Rattle.fmp_sem.proofs.Sem.signal.Goals as goal

pub returns-clause-at_zero : goal.returns-clause-at_zero
returns-clause-at_zero c h t e =
    let waits : has_waiter t c.args.self.now.waiters ≡ true = ap (λ (s : SemaphoreState). has_waiter t s.waiters) (sym c.self.view_is) ∙ e in
    let bad : true ≡ false = sym waits ∙ nobody_waits t c.args.self.now.waiters (sym c.first.ensures ∙ c.in_default.is) in cc
