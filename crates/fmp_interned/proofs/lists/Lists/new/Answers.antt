use Rattle.std.proofs.Common.{[], ℕ, List, refl, sym, subst, arith}
use Rattle.fmp_interned.specs.Trees.{IsTree, leaf}
use Rattle.fmp_interned.proofs.lists.Lists.new.Goals as goal

pub invariant_of-result : goal.invariant_of-result
invariant_of-result c = subst (λ (xs : List ℕ). IsTree c.new.result xs 0) (sym c.new-2.ensures) (leaf [] 0 (omega arith) refl)
