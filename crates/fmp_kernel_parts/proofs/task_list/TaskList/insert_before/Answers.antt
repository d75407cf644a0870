use Rattle.std.proofs.Common.{◌≡◌, ℕ, false, true, List, map, ap, sym, ◌∙◌, arith, rules}
use Rattle.fmp_codes.specs.declared.numbers.Task.{Task}
use Rattle.fmp_kernel_parts.specs.Lists.{has, list_at}
use Rattle.fmp_kernel_parts.specs.Tasks.{task_at, has_task, inserted}
use Rattle.fmp_kernel_parts.proofs.Tasks.{task_is, has_task-map, inserted-map}
use Rattle.fmp_kernel_parts.proofs.OneList.{one_insert, kept_insert, elsewhere}
use Rattle.fmp_kernel_parts.proofs.task_list.TaskList.insert_before.Goals as goal

pub insert_before-requires : goal.insert_before-requires
insert_before-requires c =
    let there : has c.index.result (list_at c.self.inside.links 0) ≡ true =
    sym (has_task-map c.args.following c.index.result (list_at c.self.inside.links 0) c.index.ensures.next c.self.invariant.small) ∙ ap (has_task c.args.following) c.self.view_is ∙ c.requires.there in
    let out : has c.index-2.result (list_at c.self.inside.links 0) ≡ false =
    sym (has_task-map c.args.task c.index-2.result (list_at c.self.inside.links 0) c.index-2.ensures.next c.self.invariant.small) ∙ ap (has_task c.args.task) c.self.view_is ∙ c.requires.nowhere in
    (search rules, (omega arith, (c.index.ensures.in_range, (there, (c.index-2.ensures.in_range, elsewhere c.self.inside.links c.index-2.result c.self.invariant out)))))

pub invariant_of-self : goal.invariant_of-self
invariant_of-self c = rw c.insert_before.ensures (kept_insert c.self.inside.links c.index.result c.index-2.result c.self.invariant c.index-2.ensures.in_range)

pub returns : goal.returns
returns c =
    ap (λ (q : List (List ℕ)). map task_at (list_at q 0)) c.insert_before.ensures
    ∙ ap (map task_at) (one_insert c.self.inside.links c.index.result c.index-2.result c.self.invariant)
    ∙ inserted-map c.args.following c.args.task c.index.result c.index-2.result (list_at c.self.inside.links 0) c.index.ensures.next
    (task_is c.args.task c.index-2.result c.index-2.ensures.next) c.self.invariant.small
    ∙ ap (λ (us : List Task). inserted c.args.following c.args.task us) c.self.view_is
