use Rattle.std.proofs.Common.{◌∙◌, refl, sym, subst}
use Rattle.fmp_interned.specs.Trees.{IsTree}
use Rattle.fmp_search_lines.specs.Keys.{words_of}
use Rattle.fmp_search_lines.proofs.Keys.{long_words, some_words}
use Rattle.fmp_search_lines.proofs.packing.unpack_taken.Goals as goal

pub put-requires : goal.put-requires
put-requires c = some_words c.args.lists.now _ c.args.key c.halves-count.result.0 c.halves-count.result.1 c.requires c.halves-count.ensures.upper c.halves-count.ensures.lower refl

pub returns-clause-is : goal.returns-clause-is
returns-clause-is c = λ state top pending is.
    let long = long_words _ c.halves-count.result.0 state top pending refl is.few (c.halves-count.ensures.upper ∙ is.count) in
    c.taken_of.ensures state top pending
    (c.put.ensures.is (words_of state top pending) long (subst (λ k. IsTree c.args.lists.now (words_of state top pending) k) (sym c.halves-count.ensures.lower) is.tree))
