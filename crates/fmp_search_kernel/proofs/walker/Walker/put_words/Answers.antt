use Rattle.std.proofs.Common.{refl}
use Rattle.fmp_search_kernel.specs.Keys.{words_of}
use Rattle.fmp_search_kernel.specs.Walked.{origin_of}
use Rattle.fmp_search_kernel.proofs.Said.{are_of, as_many, its_tree}
use Rattle.fmp_search_kernel.proofs.walker.Walker.put_words.Goals as goal

pub put-requires : goal.put-requires
put-requires c =
    let o = origin_of c.args.self.now.place in
    let t = c.args.tables.now in
    let p = c.requires.kept.0 in
    let g = c.requires.kept.1 in (
      words_of p g.counting,
      as_many o t c.args.key p g c.requires.valid _ c.requires.long,
      its_tree o t c.args.key p g c.requires.valid _ _ c.tables.view_is c.halves-machine.ensures.lower,
    )

pub returns-clause-are : goal.returns-clause-are
returns-clause-are c = λ p g.
    let o = origin_of c.args.self.now.place in
    let t = c.args.tables.now in
    let numbers = c.put.ensures.is (words_of p g.counting) (as_many o t c.args.key p g c.requires.valid _ c.requires.long)
    (its_tree o t c.args.key p g c.requires.valid _ _ c.tables.view_is c.halves-machine.ensures.lower) in
    are_of o t c.args.key p g c.requires.valid _ c.put.new.numbers c.halves-machine.ensures.upper refl numbers
