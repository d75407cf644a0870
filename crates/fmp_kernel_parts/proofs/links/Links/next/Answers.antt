use Rattle.std.proofs.Common.{ℕ, ◌<◌, Option, subst, sym, ◌∙◌}
use Rattle.std.specs.Prelude.{IfSome, slice_index}
use Rattle.fmp_kernel_parts.specs.Rings.{IsSound}
use Rattle.fmp_kernel_parts.proofs.Soundness.{next_is, disjoint_from}
use Rattle.fmp_kernel_parts.proofs.Chaining.{item_at-low}
use Rattle.fmp_kernel_parts.proofs.links.Links.next.Goals as goal

pub returns-clause-value : goal.returns-clause-value
returns-clause-value g c =
    let s : IsSound g.row.ITEMS c.self.inside.next c.self.inside.prev c.self.inside.place c.args.self.now =
    subst (IsSound g.row.ITEMS c.self.inside.next c.self.inside.prev c.self.inside.place) c.self.view_is c.self.invariant.2 in
    λ i before following e. c.item_at.ensures ∙ next_is s i c.args.item before following e

pub returns-clause-disjoint : goal.returns-clause-disjoint
returns-clause-disjoint g c =
    disjoint_from (subst (IsSound g.row.ITEMS c.self.inside.next c.self.inside.prev c.self.inside.place) c.self.view_is c.self.invariant.2)

pub returns-clause-in_range : goal.returns-clause-in_range
returns-clause-in_range g c = subst (λ (o : Option ℕ). IfSome o (λ next. next < g.row.ITEMS)) (sym c.item_at.ensures) (item_at-low g.row.ITEMS (slice_index c.self.inside.next c.args.item))
