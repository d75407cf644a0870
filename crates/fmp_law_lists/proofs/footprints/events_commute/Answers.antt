use Rattle.fmp_law_lists.proofs.Commuting.{enough_commute}
use Rattle.fmp_law_lists.proofs.footprints.events_commute.Goals as goal

pub returns : goal.returns
returns c = enough_commute
