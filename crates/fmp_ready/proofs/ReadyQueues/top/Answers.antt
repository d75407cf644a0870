use Rattle.std.proofs.Common.{ℕ, ◌≤◌, ap, sym, subst, ◌∙◌}
use Rattle.fmp_codes.specs.Numbers.{task_number}
use Rattle.fmp_ready.specs.Queues.{PriorityLists, top_of, top_at}
use Rattle.fmp_ready.specs.Kept.{tasks_of}
use Rattle.fmp_ready.proofs.Tops.{number_small}
use Rattle.fmp_ready.proofs.ReadyQueues.top.Goals as goal

pub numbered-requires : goal.numbered-requires
numbered-requires c =
    subst (λ (n : ℕ). n ≤ 64) (sym (c.self.invariant.1.each c.index.result c.index.ensures.in_range)) (number_small (top_at (tasks_of c.self.inside.links) c.index.result))

pub returns : goal.returns
returns c =
    c.numbered.ensures (top_of c.args.self.now.lists c.args.processor)
    (c.self.invariant.1.each c.index.result c.index.ensures.in_range ∙ ap (λ (k : ℕ). task_number (top_at (tasks_of c.self.inside.links) k)) c.index.ensures.value
    ∙ ap (λ (v : PriorityLists). task_number (top_of v.lists c.args.processor)) c.self.view_is)
