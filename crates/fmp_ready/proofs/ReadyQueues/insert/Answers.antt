use Rattle.std.proofs.Common.{ℕ, List, [], ◌∷◌, ◌++◌, ap, sym, arith, ◌∙◌, rules}
use Rattle.fmp_codes.specs.declared.numbers.Task.{Task}
use Rattle.std.proofs.lemmas.List.{get_or-set_other}
use Rattle.fmp_kernel_parts.specs.Lists as links
use Rattle.fmp_kernel_parts.specs.Tasks.{has_task}
use Rattle.fmp_kernel_parts.proofs.Tasks.{task_is}
use Rattle.fmp_ready.specs.Queues.{PriorityLists, queue_at, push_last}
use Rattle.fmp_ready.specs.Kept.{tasks_of}
use Rattle.fmp_ready.proofs.Tasks.{has_task-tasks_of, push_tasks, queues_same}
use Rattle.fmp_ready.proofs.Kept.{kept_push}
use Rattle.fmp_ready.proofs.Tops.{tops_found}
use Rattle.fmp_ready.proofs.ReadyQueues.insert.Goals as goal

pub push_last-requires : goal.push_last-requires
push_last-requires c = (
  search rules,
  (
    c.list_of-list.ensures.in_range,
    (
      c.index.ensures.in_range,
      (λ i.
          sym (has_task-tasks_of c.self.inside.links c.args.task c.index.result i c.index.ensures.next c.self.invariant.0.small)
          ∙ ap (λ q. has_task c.args.task (queue_at q i)) (ap (λ v. v.lists) c.self.view_is) ∙ c.requires i),
    ),
  ),
)

pub find_top-requires : goal.find_top-requires
find_top-requires c = record {
  place = omega (arith, c.list_of-list.ensures.in_range);
  kept = rw c.push_last.ensures (kept_push c.self.inside.words c.write_bit.new.words c.self.inside.links c.list_of-list.result c.index.result c.self.invariant.0 c.list_of-list.ensures.in_range c.index.ensures.in_range c.write_bit.ensures);
}

pub invariant_of-self : goal.invariant_of-self
invariant_of-self c = (
  rw c.push_last.ensures (kept_push c.self.inside.words c.write_bit.new.words c.self.inside.links c.list_of-list.result c.index.result c.self.invariant.0 c.list_of-list.ensures.in_range c.index.ensures.in_range c.write_bit.ensures),
  rw c.find_top.ensures (tops_found c.self.inside.tops c.self.inside.links c.push_last.new.self c.list_of-list.result c.self.invariant.1 c.list_of-list.ensures.in_range
      (λ j e. ap (λ (q : List (List ℕ)). links.list_at q j) c.push_last.ensures
      ∙ get_or-set_other c.self.inside.links c.list_of-list.result j (links.list_at c.self.inside.links c.list_of-list.result ++ c.index.result ∷ []) [] e)),
)

pub returns : goal.returns
returns c =
    let lists = ap (λ (v : PriorityLists). v.lists) c.self.view_is in
    queues_same _ _
    (ap tasks_of c.push_last.ensures ∙ push_tasks c.self.inside.links c.list_of-list.result c.index.result c.args.task (task_is c.args.task c.index.result c.index.ensures.next)
    ∙ ap (λ (q : List (List Task)). push_last q c.list_of-list.result c.args.task) lists
    ∙ ap (λ (i : ℕ). push_last c.args.self.now.lists i c.args.task) c.list_of-list.ensures.value)
