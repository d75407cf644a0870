use Rattle.std.proofs.Common.{List, length, ap, arith}
use Rattle.fmp_search.specs.declared.edges.Edge.{Edge}
use Rattle.fmp_search.proofs.Linked.{edges_long}
use Rattle.fmp_search.proofs.edges.Edges.len.Goals as goal

pub returns : goal.returns
returns c =
    let long = edges_long c.self.inside.kinds c.self.inside.links.items in
    let same = ap (λ (es : List Edge). length es) c.self.view_is in
    let len = c.len.ensures in
    search (arith, long, same, len)
