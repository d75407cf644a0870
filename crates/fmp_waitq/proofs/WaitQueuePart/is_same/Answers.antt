use Rattle.std.proofs.Common.{sym, ◌∙◌, rules}
use Rattle.std.specs.Cmp.{unsigned_Decides}
use Rattle.std.proofs.lemmas.Slice.Eq.{slice_eq-Decides}
use Rattle.fmp_waitq.proofs.Waiters.{queue_tasks, queue_ranks}
use Rattle.fmp_waitq.proofs.WaitQueuePart.is_same.Goals as goal

pub returns-then-is_same : goal.returns-then-is_same
returns-then-is_same c = (
  search rules,
  λ e. (slice_eq-Decides unsigned_Decides c.self.inside.ranks c.other.inside.ranks c.eq-then-is_same.result c.eq-then-is_same.ensures).1
      (queue_ranks c.self.inside.order c.other.inside.order c.self.inside.ranks c.other.inside.ranks c.self.inside.tasks c.other.inside.tasks c.self.invariant c.other.invariant (c.self.view_is ∙ e ∙ sym c.other.view_is)),
)

pub returns-else-is_same : goal.returns-else-is_same
returns-else-is_same c = (
  search rules,
  λ e. c.is_same.ensures.1 (queue_tasks c.self.inside.order c.other.inside.order c.self.inside.ranks c.other.inside.ranks c.self.inside.tasks c.other.inside.tasks
      (c.self.view_is ∙ e ∙ sym c.other.view_is)),
)
