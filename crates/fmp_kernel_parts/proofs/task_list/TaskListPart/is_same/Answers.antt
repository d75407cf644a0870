use Rattle.std.proofs.Common.{List, ℕ, map, ap, sym, ◌∙◌}
use Rattle.fmp_kernel_parts.specs.Lists.{list_at}
use Rattle.fmp_kernel_parts.specs.Tasks.{task_at}
use Rattle.fmp_kernel_parts.proofs.OneList.{one_same}
use Rattle.fmp_kernel_parts.proofs.task_list.TaskListPart.is_same.Goals as goal

pub returns-else-are_empty : goal.returns-else-are_empty
returns-else-are_empty c = (
  λ h. sym c.self.view_is ∙ ap (λ (q : List (List ℕ)). map task_at (list_at q 0)) (c.is_same.ensures.0 h) ∙ c.other.view_is,
  λ e. c.is_same.ensures.1 (one_same c.self.inside.links c.other.inside.links c.self.invariant c.other.invariant (c.self.view_is ∙ e ∙ sym c.other.view_is)),
)
