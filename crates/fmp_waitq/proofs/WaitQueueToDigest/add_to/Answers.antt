use Rattle.std.proofs.Common.{List, sym, ap, ◌∙◌}
use Rattle.fmp_codes.specs.declared.numbers.Task.{Task}
use Rattle.fmp_kernel_parts.specs.Digests.{added_all, added_task}
use Rattle.fmp_waitq.specs.Queue.{Queue, added_waiters}
use Rattle.fmp_waitq.proofs.Waiters.{map-task_of}
use Rattle.fmp_waitq.proofs.WaitQueueToDigest.add_to.Goals as goal

pub returns : goal.returns
returns c =
    c.add_to.ensures ∙ ap (λ (ts : List Task). added_all added_task ts c.args.digest.now) (sym (map-task_of c.self.inside.ranks c.self.inside.tasks))
    ∙ ap (λ (q : Queue). added_waiters q.waiters c.args.digest.now) c.self.view_is
