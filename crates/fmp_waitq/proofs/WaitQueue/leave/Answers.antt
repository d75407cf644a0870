use Rattle.std.proofs.Common.{ℕ, List, map, sym, ap, subst, ◌∙◌}
use Rattle.std.specs.Prelude.{slice_set}
use Rattle.fmp_codes.specs.declared.numbers.Task.{Task}
use Rattle.fmp_kernel_parts.specs.Tasks.{without}
use Rattle.fmp_waitq.specs.Queue.{Queue, has_waiter, left_by}
use Rattle.fmp_waitq.specs.Kept.{waiter_in, AreRanks}
use Rattle.fmp_waitq.proofs.Waiters.{queue_same, has_waiter-map, left_ranks, left_waiters}
use Rattle.fmp_waitq.proofs.WaitQueue.leave.Goals as goal

pub invariant_of-self : goal.invariant_of-self
invariant_of-self c =
    subst (λ (ts : List Task). AreRanks c.self.inside.order (slice_set c.self.inside.ranks c.index.result 0) ts) (sym c.remove.ensures.tasks)
    (subst (λ (i : ℕ). AreRanks c.self.inside.order (slice_set c.self.inside.ranks i 0) (without c.args.task c.self.inside.tasks)) (sym c.index.ensures.value)
    (left_ranks c.self.inside.order c.self.inside.ranks c.args.task c.self.inside.tasks c.self.invariant))

pub returns-clause-waiters : goal.returns-clause-waiters
returns-clause-waiters c =
    queue_same c.self.inside.order _ _
    (ap (map (waiter_in (slice_set c.self.inside.ranks c.index.result 0))) c.remove.ensures.tasks
    ∙ ap (λ (i : ℕ). map (waiter_in (slice_set c.self.inside.ranks i 0)) (without c.args.task c.self.inside.tasks)) c.index.ensures.value
    ∙ left_waiters c.self.inside.ranks c.args.task c.self.inside.tasks c.self.told)
    ∙ ap (λ (q : Queue). record { order = q.order; waiters = left_by c.args.task q.waiters }) c.self.view_is

pub returns-clause-there : goal.returns-clause-there
returns-clause-there c =
    c.remove.ensures.there ∙ sym (has_waiter-map c.self.inside.ranks c.args.task c.self.inside.tasks) ∙ ap (λ (q : Queue). has_waiter c.args.task q.waiters) c.self.view_is
