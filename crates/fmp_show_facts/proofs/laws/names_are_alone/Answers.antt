use Rattle.fmp_show_facts.proofs.Only.{alone}
use Rattle.fmp_show_facts.proofs.laws.names_are_alone.Goals as goal

pub returns : goal.returns
returns c = alone
