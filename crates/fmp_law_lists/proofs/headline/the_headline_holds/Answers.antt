use Rattle.fmp_law_lists.proofs.Along.{headline_throughout}
use Rattle.fmp_law_lists.proofs.headline.the_headline_holds.Goals as goal

pub returns : goal.returns
returns c = headline_throughout
