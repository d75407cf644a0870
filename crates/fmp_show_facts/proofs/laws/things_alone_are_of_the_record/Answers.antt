use Rattle.fmp_show_facts.proofs.Asked.{nothing_asked}
use Rattle.fmp_show_facts.proofs.laws.things_alone_are_of_the_record.Goals as goal

pub returns : goal.returns
returns c = nothing_asked
