use Rattle.std.proofs.Common.{ℕ, List, [], ap, arith, ◌∙◌}
use Rattle.std.specs.Prelude.{slice_set}
use Rattle.std.proofs.lemmas.List.{get_or-set_other}
use Rattle.fmp_codes.specs.declared.numbers.Task.{Task}
use Rattle.fmp_kernel_parts.specs.Lists as links
use Rattle.fmp_ready.specs.Queues.{PriorityLists, queue_at, rotated}
use Rattle.fmp_ready.specs.Kept.{tasks_of}
use Rattle.fmp_ready.proofs.Tasks.{rotate_tasks, queues_same}
use Rattle.fmp_ready.proofs.Kept.{kept_rotate}
use Rattle.fmp_ready.proofs.Tops.{tops_found}
use Rattle.fmp_ready.proofs.ReadyQueues.rotate.Goals as goal

pub find_top-requires : goal.find_top-requires
find_top-requires c = record {
  place = omega (arith, c.list_of-list.ensures.in_range);
  kept = rw c.rotate.ensures (kept_rotate c.self.inside.words c.self.inside.links c.list_of-list.result c.self.invariant.0 c.list_of-list.ensures.in_range);
}

pub invariant_of-self : goal.invariant_of-self
invariant_of-self c = (
  rw c.rotate.ensures (kept_rotate c.self.inside.words c.self.inside.links c.list_of-list.result c.self.invariant.0 c.list_of-list.ensures.in_range),
  rw c.find_top.ensures (tops_found c.self.inside.tops c.self.inside.links c.rotate.new.self c.list_of-list.result c.self.invariant.1 c.list_of-list.ensures.in_range
      (λ j e. ap (λ (q : List (List ℕ)). links.list_at q j) c.rotate.ensures
      ∙ get_or-set_other c.self.inside.links c.list_of-list.result j (links.rotated (links.list_at c.self.inside.links c.list_of-list.result)) [] e)),
)

pub returns : goal.returns
returns c =
    let lists = ap (λ (v : PriorityLists). v.lists) c.self.view_is in
    queues_same _ _
    (ap tasks_of c.rotate.ensures ∙ rotate_tasks c.self.inside.links c.list_of-list.result
    ∙ ap (λ (q : List (List Task)). slice_set q c.list_of-list.result (rotated (queue_at q c.list_of-list.result))) lists
    ∙ ap (λ (i : ℕ). slice_set c.args.self.now.lists i (rotated (queue_at c.args.self.now.lists i))) c.list_of-list.ensures.value)
