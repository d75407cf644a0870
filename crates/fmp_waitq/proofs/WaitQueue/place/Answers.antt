use Rattle.std.proofs.Common.{ap, ◌∙◌}
use Rattle.fmp_waitq.specs.Queue.{Queue, has_waiter}
use Rattle.fmp_waitq.proofs.Waiters.{gone}
use Rattle.fmp_waitq.proofs.WaitQueue.place.Goals as goal

pub join-requires : goal.join-requires
join-requires c = ap (λ (q : Queue). has_waiter c.args.task q.waiters) c.leave.ensures.waiters ∙ gone c.args.task c.args.self.now.waiters
