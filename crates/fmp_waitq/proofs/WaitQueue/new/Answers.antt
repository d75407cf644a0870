use Rattle.fmp_waitq.proofs.Waiters.{new_ranks}
use Rattle.fmp_waitq.proofs.WaitQueue.new.Goals as goal

pub invariant_of-result : goal.invariant_of-result
invariant_of-result c = new_ranks c.args.order c.new.result
