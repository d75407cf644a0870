use Rattle.std.proofs.Common.{◌≡◌, ◌<◌, List, Some, length, ap, arith, refl, subst}
use Rattle.std.specs.Prelude.{slice_get}
use Rattle.std.proofs.lemmas.Option.{slice_get_read}
use Rattle.fmp_search.specs.declared.edges.Edge.{Edge}
use Rattle.fmp_search.proofs.Linked.{edges_long, edge_at, edge_by}
use Rattle.fmp_search.proofs.edges.Edges.get.Goals as goal

pub index-link-requires : goal.index-link-requires
index-link-requires c =
    let long = edges_long c.self.inside.kinds c.self.inside.links.items in
    let same = ap (λ (es : List Edge). length es) c.self.view_is in
    search (arith, long, same)

pub get-kind-requires : goal.get-kind-requires
get-kind-requires c =
    let links = c.self.inside.links.items in
    let long = edges_long c.self.inside.kinds links in
    let same = ap (λ (es : List Edge). length es) c.self.view_is in
    let lt : c.args.at < length links = omega (arith, long, same) in
    c.self.invariant c.args.at c.index-link.result.now (slice_get_read links (length links) c.args.at c.index-link.result.now refl lt c.index-link.ensures)

pub returns : goal.returns
returns c =
    let links = c.self.inside.links.items in
    let long = edges_long c.self.inside.kinds links in
    let same = ap (λ (es : List Edge). length es) c.self.view_is in
    let lt : c.args.at < length links = omega (arith, long, same) in
    let one = slice_get_read links (length links) c.args.at c.index-link.result.now refl lt c.index-link.ensures in
    subst (λ (es : List Edge). slice_get es c.args.at ≡ Some (edge_by c.index-link.result.now c.get-kind.result.now)) c.self.view_is
    (edge_at c.self.inside.kinds links c.args.at c.index-link.result.now c.get-kind.result.now one c.get-kind.ensures)
