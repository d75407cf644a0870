use Rattle.fmp_names.proofs.Same.{views_decide, entry_of, entry_decides}
use Rattle.fmp_names.proofs.names.are_same_definitions.Goals as goal

pub returns : goal.returns
returns c = rw (c.are_same_pairs.ensures, c.deref.ensures.value, c.deref-2.ensures.value) (views_decide _ entry_of entry_decides c.args.one.now.items c.args.other.now.items)
