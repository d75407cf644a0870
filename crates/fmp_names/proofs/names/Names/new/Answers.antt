use Rattle.fmp_names.proofs.Valid.{none_valid}
use Rattle.fmp_names.proofs.names.Names.new.Goals as goal

pub invariant_of-result : goal.invariant_of-result
invariant_of-result c =
    rw (c.new.ensures.items, c.new-2.ensures.items, c.new-3.ensures.items, c.new-4.ensures.items, c.new-5.ensures.items, c.new-6.ensures.items, c.new-7.ensures.items, c.new-8.ensures.items, c.new-9.ensures.items, c.new-10.ensures.items)
    (none_valid c.args.processors c.requires.least c.requires.most, rw c.new-12.ensures (λ place number p few there some. absurd cc))
