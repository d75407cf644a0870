use Rattle.fmp_search.proofs.Farther.{not_farther}
use Rattle.fmp_search.proofs.laws.ends_soon.Goals as goal

pub returns : goal.returns
returns g c = λ n turns x near on. not_farther g.W.Space.after g.W.Space.wanted (g.W.Space.origin c.args._walker.now) c.args._nodes.now n turns x near on
