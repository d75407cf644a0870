use Rattle.std.proofs.Common.{ap, sym, ◌∙◌, subst}
use Rattle.fmp_kernel_parts.specs.Rings.{lists_along, IsSound}
use Rattle.fmp_kernel_parts.proofs.Soundness.{next_same}
use Rattle.fmp_kernel_parts.proofs.links.LinksPart.is_same.Goals as goal

pub returns : goal.returns
returns g c =
    let one : IsSound g.row.ITEMS c.self.inside.next c.self.inside.prev c.self.inside.place c.args.self.now =
    subst (IsSound g.row.ITEMS c.self.inside.next c.self.inside.prev c.self.inside.place) c.self.view_is c.self.invariant.2 in
    let other : IsSound g.row.ITEMS c.other.inside.next c.other.inside.prev c.other.inside.place c.args.other.now =
    subst (IsSound g.row.ITEMS c.other.inside.next c.other.inside.prev c.other.inside.place) c.other.view_is c.other.invariant.2 in (
      λ h. sym c.self.view_is ∙ ap (lists_along g.row.ITEMS) (c.are_equal.ensures.0 h) ∙ c.other.view_is,
      λ e. c.are_equal.ensures.1 (next_same (subst (IsSound g.row.ITEMS c.self.inside.next c.self.inside.prev c.self.inside.place) e one) other),
    )
