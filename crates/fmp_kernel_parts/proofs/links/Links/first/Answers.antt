use Rattle.std.proofs.Common.{◌<◌, length, subst, arith, ◌∙◌}
use Rattle.fmp_kernel_parts.specs.Rings.{IsSound}
use Rattle.fmp_kernel_parts.proofs.Soundness.{first_is, few_in, disjoint_from}
use Rattle.fmp_kernel_parts.proofs.links.Links.first.Goals as goal

pub returns-clause-value : goal.returns-clause-value
returns-clause-value g c =
    let s : IsSound g.row.ITEMS c.self.inside.next c.self.inside.prev c.self.inside.place c.args.self.now =
    subst (IsSound g.row.ITEMS c.self.inside.next c.self.inside.prev c.self.inside.place) c.self.view_is c.self.invariant.2 in
    let within : c.args.list < length c.args.self.now = omega (arith, s.next_count) in
    c.item_at.ensures ∙ first_is s c.args.list within

pub returns-clause-few : goal.returns-clause-few
returns-clause-few g c =
    let s : IsSound g.row.ITEMS c.self.inside.next c.self.inside.prev c.self.inside.place c.args.self.now =
    subst (IsSound g.row.ITEMS c.self.inside.next c.self.inside.prev c.self.inside.place) c.self.view_is c.self.invariant.2 in
    few_in s c.args.list

pub returns-clause-disjoint : goal.returns-clause-disjoint
returns-clause-disjoint g c =
    disjoint_from (subst (IsSound g.row.ITEMS c.self.inside.next c.self.inside.prev c.self.inside.place) c.self.view_is c.self.invariant.2)
