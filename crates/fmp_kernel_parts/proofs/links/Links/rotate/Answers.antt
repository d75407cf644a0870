use Rattle.std.proofs.Common.{◌+◌, ◌<◌, length, subst, ap, arith, rules, ◌∙◌}
use Rattle.std.specs.Prelude.{slice_index}
use Rattle.fmp_kernel_parts.specs.Lists.{has, list_at, push_last}
use Rattle.fmp_kernel_parts.specs.Rings.{IsSound}
use Rattle.fmp_kernel_parts.proofs.Soundness.{first_at, first_none, first_there, gone, rotate_is, rotate_none}
use Rattle.fmp_kernel_parts.proofs.links.Links.rotate.Goals as goal

pub remove-requires : goal.remove-requires
remove-requires g c =
    let s : IsSound g.row.ITEMS c.self.inside.next c.self.inside.prev c.self.inside.place c.args.self.now =
    subst (IsSound g.row.ITEMS c.self.inside.next c.self.inside.prev c.self.inside.place) c.self.view_is c.self.invariant.2 in
    let within : c.args.list < length c.args.self.now = omega (arith, s.next_count) in
    (search rules, (c.if-first.true, (c.args.list, first_there _ (list_at c.args.self.now c.args.list) (first_at s c.args.list within c.if-first.true))))

pub push_last-requires : goal.push_last-requires
push_last-requires g c =
    (search rules, (c.requires, (c.if-first.true, (λ i. ap (λ q. has (slice_index c.self.inside.next (g.row.ITEMS + c.args.list)) (list_at q i)) c.remove.ensures ∙ gone c.args.self.now (slice_index c.self.inside.next (g.row.ITEMS + c.args.list)) i))))

pub returns-then-first : goal.returns-then-first
returns-then-first g c =
    let s : IsSound g.row.ITEMS c.self.inside.next c.self.inside.prev c.self.inside.place c.args.self.now =
    subst (IsSound g.row.ITEMS c.self.inside.next c.self.inside.prev c.self.inside.place) c.self.view_is c.self.invariant.2 in
    let within : c.args.list < length c.args.self.now = omega (arith, s.next_count) in
    let t = slice_index c.self.inside.next (g.row.ITEMS + c.args.list) in
    c.push_last.ensures ∙ ap (λ q. push_last q c.args.list t) c.remove.ensures ∙ rotate_is s c.args.list t within (first_at s c.args.list within c.if-first.true)

pub returns-else-first : goal.returns-else-first
returns-else-first g c =
    let s : IsSound g.row.ITEMS c.self.inside.next c.self.inside.prev c.self.inside.place c.args.self.now =
    subst (IsSound g.row.ITEMS c.self.inside.next c.self.inside.prev c.self.inside.place) c.self.view_is c.self.invariant.2 in
    let within : c.args.list < length c.args.self.now = omega (arith, s.next_count) in
    rotate_none c.args.self.now c.args.list (first_none s c.args.list within c.if-first.false)
