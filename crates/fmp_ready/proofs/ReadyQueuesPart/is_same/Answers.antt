use Rattle.std.proofs.Common.{List, ℕ, ap, sym, ◌∙◌}
use Rattle.fmp_codes.specs.declared.numbers.Task.{Task}
use Rattle.fmp_ready.specs.Queues.{PriorityLists}
use Rattle.fmp_ready.specs.Kept.{tasks_of}
use Rattle.fmp_ready.proofs.Tasks.{lists_same}
use Rattle.fmp_ready.proofs.ReadyQueuesPart.is_same.Goals as goal

the : List (List Task) → PriorityLists
the q = record { lists = q }

pub returns : goal.returns
returns c = (
  λ h. sym c.self.view_is ∙ ap (λ (q : List (List ℕ)). record { lists = tasks_of q }) (c.is_same.ensures.0 h) ∙ c.other.view_is,
  λ e. c.is_same.ensures.1 (lists_same c.self.inside.links c.other.inside.links c.self.invariant.0.small c.other.invariant.0.small
      (ap (λ (q : PriorityLists). q.lists) (c.self.view_is ∙ e ∙ sym c.other.view_is))),
)
