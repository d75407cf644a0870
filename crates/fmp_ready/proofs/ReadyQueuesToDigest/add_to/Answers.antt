use Rattle.std.proofs.Common.{List, ℕ, sym, ap, ◌∙◌}
use Rattle.fmp_kernel_parts.specs.Digests.{added_items}
use Rattle.fmp_ready.specs.Queues.{PriorityLists, items_in, added_lists}
use Rattle.fmp_ready.proofs.Tasks.{items_told}
use Rattle.fmp_ready.proofs.ReadyQueuesToDigest.add_to.Goals as goal

pub returns : goal.returns
unfolding added_lists
returns c =
    c.add_to.ensures ∙ ap (λ (q : List (List ℕ)). added_items 64 q 64 c.args.digest.now) (sym (items_told c.self.inside.links c.self.invariant.0.small))
    ∙ ap (λ (q : PriorityLists). added_items 64 (items_in q.lists) 64 c.args.digest.now) c.self.view_is
