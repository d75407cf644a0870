use Rattle.std.proofs.Common.{◌≡◌, ℕ, false, List, ◌∷◌, [], ◌++◌, map, ap, sym, ◌∙◌, arith, rules}
use Rattle.std.proofs.lemmas.List.{map_push}
use Rattle.fmp_codes.specs.declared.numbers.Task.{Task}
use Rattle.fmp_kernel_parts.specs.Lists.{has, list_at}
use Rattle.fmp_kernel_parts.specs.Tasks.{task_at, has_task}
use Rattle.fmp_kernel_parts.proofs.Tasks.{task_is, has_task-map}
use Rattle.fmp_kernel_parts.proofs.OneList.{one_push, elsewhere}
use Rattle.fmp_kernel_parts.proofs.task_list.TaskList.push_last.Goals as goal

pub push_last-requires : goal.push_last-requires
push_last-requires c =
    let out : has c.index.result (list_at c.self.inside.links 0) ≡ false =
    sym (has_task-map c.args.task c.index.result (list_at c.self.inside.links 0) c.index.ensures.next c.self.invariant.small)
    ∙ ap (has_task c.args.task) c.self.view_is ∙ c.requires in
    (search rules, (omega arith, (c.index.ensures.in_range, elsewhere c.self.inside.links c.index.result c.self.invariant out)))

pub returns : goal.returns
returns c =
    ap (λ (q : List (List ℕ)). map task_at (list_at q 0)) c.push_last.ensures
    ∙ ap (map task_at) (one_push c.self.inside.links c.index.result c.self.invariant)
    ∙ map_push task_at (list_at c.self.inside.links 0) c.index.result
    ∙ ap (λ (u : Task). map task_at (list_at c.self.inside.links 0) ++ u ∷ []) (task_is c.args.task c.index.result c.index.ensures.next)
    ∙ ap (λ (us : List Task). us ++ c.args.task ∷ []) c.self.view_is
