use Rattle.fmp_interned.proofs.Trees.{tree_stays}
use Rattle.fmp_interned.proofs.lists.Lists.key_of.Goals as goal

pub invariant_of-self : goal.invariant_of-self
invariant_of-self c = tree_stays c.self.inside.pairs c.key_beside.new.pairs c.self.inside.last c.self.inside.key c.key_beside.ensures.kept c.self.invariant
