use Rattle.fmp_search.proofs.Along.{says_along}
use Rattle.fmp_search.proofs.guided.explore_along.Goals as goal

pub returns-clause-says : goal.returns-clause-says
returns-clause-says g c = says_along g.W.Space.after g.W.Space.wanted _ _ _ _ _ c.in_ok-answer.ensures.says
