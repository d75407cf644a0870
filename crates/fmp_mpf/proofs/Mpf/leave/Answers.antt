use Rattle.std.proofs.Common.{ap, sym, subst, ◌∙◌}
use Rattle.fmp_waitq.specs.Queue.{Queue, left_by}
use Rattle.fmp_mpf.specs.Marks.{marks}
use Rattle.fmp_mpf.specs.MemoryPool.{MemoryPool}
use Rattle.fmp_mpf.specs.Operations.{IsServed}
use Rattle.fmp_mpf.proofs.Serving.{served_left}
use Rattle.fmp_mpf.proofs.Mpf.leave.Goals as goal

pub returns-clause-served : goal.returns-clause-served
returns-clause-served c = λ h.
    let t = c.args.task in
    let was : MemoryPool = record { pool = record { setup = c.self.inside.setup; handed = marks c.self.inside.handed }; waiters = c.self.inside.queue.waiters } in
    subst IsServed (sym (ap (λ (w : Queue). record was { waiters = w.waiters }) c.leave.ensures.waiters ∙ ap (λ (m : MemoryPool). record m { waiters = left_by t m.waiters }) c.self.view_is))
    (served_left c.args.self.now t h)
