use Rattle.std.proofs.Common.{ℕ, List, map, ap, sym, ◌∙◌}
use Rattle.fmp_kernel_parts.specs.Lists.{list_at}
use Rattle.fmp_kernel_parts.specs.Tasks.{task_at, has_task, without}
use Rattle.fmp_kernel_parts.proofs.Tasks.{has_task-map, without-map}
use Rattle.fmp_kernel_parts.proofs.Soundness.{list_at-take_out}
use Rattle.fmp_kernel_parts.proofs.OneList.{kept_take_out, place_there}
use Rattle.fmp_kernel_parts.proofs.task_list.TaskList.remove.Goals as goal

pub invariant_of-self : goal.invariant_of-self
invariant_of-self c = rw c.take_out.ensures (kept_take_out c.self.inside.links c.index-item.result c.self.invariant)

pub returns-clause-tasks : goal.returns-clause-tasks
returns-clause-tasks c =
    ap (λ (q : List (List ℕ)). map task_at (list_at q 0)) c.take_out.ensures ∙ ap (map task_at) (list_at-take_out c.self.inside.links c.index-item.result 0)
    ∙ without-map c.args.task c.index-item.result (list_at c.self.inside.links 0) c.index-item.ensures.next c.self.invariant.small ∙ ap (without c.args.task) c.self.view_is

pub returns-clause-there : goal.returns-clause-there
returns-clause-there c =
    c.is_some-is_there.ensures ∙ place_there c.self.inside.links c.index-item.result c.place.result c.self.invariant c.place.ensures
    ∙ sym (has_task-map c.args.task c.index-item.result (list_at c.self.inside.links 0) c.index-item.ensures.next c.self.invariant.small) ∙ ap (has_task c.args.task) c.self.view_is
