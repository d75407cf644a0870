use Rattle.std.proofs.Common.{List, [], arith, refl, subst}
use Rattle.fmp_interned.specs.Values.{IsAdded}
use Rattle.fmp_interned.proofs.Numbers.{was_new}
use Rattle.fmp_search.proofs.store.Store.new.Goals as goal

pub returns : goal.returns
returns g c =
    let keys = c.number_of.new.self in
    let first = c.args.first in
    let added = subst (λ (ks : List _). IsAdded ks first keys) c.new-keys.ensures c.in_ok-number_of.ensures.added in
    (c.new.ensures.items, refl, (was_new [] keys first _ added c.in_ok-number_of.ensures.is (omega arith)).2, refl)
