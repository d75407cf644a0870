use Rattle.fmp_search.proofs.Linked.{edges_none}
use Rattle.fmp_search.proofs.edges.Edges.new.Goals as goal

pub returns : goal.returns
returns c = edges_none _ _ c.new.ensures.items
