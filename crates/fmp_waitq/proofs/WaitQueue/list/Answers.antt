use Rattle.std.proofs.Common.{map, sym, ap, subst, ◌∙◌}
use Rattle.fmp_kernel_parts.specs.Tasks.{AreDistinct}
use Rattle.fmp_waitq.specs.Queue.{Queue, task_of}
use Rattle.fmp_waitq.proofs.Waiters.{map-task_of}
use Rattle.fmp_waitq.proofs.WaitQueue.list.Goals as goal

pub returns-clause-tasks : goal.returns-clause-tasks
returns-clause-tasks c = c.list.ensures.tasks ∙ sym (map-task_of c.self.inside.ranks c.self.inside.tasks) ∙ ap (λ (q : Queue). map task_of q.waiters) c.self.view_is

pub returns-clause-distinct : goal.returns-clause-distinct
returns-clause-distinct c = subst AreDistinct (sym (map-task_of c.self.inside.ranks c.self.inside.tasks) ∙ ap (λ (q : Queue). map task_of q.waiters) c.self.view_is) c.list.ensures.distinct
