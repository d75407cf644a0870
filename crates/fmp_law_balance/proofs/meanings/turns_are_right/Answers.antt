use Rattle.fmp_law_balance.proofs.Turns.{turns_ordered}
use Rattle.fmp_law_balance.proofs.meanings.turns_are_right.Goals as goal

pub returns : goal.returns
returns c = turns_ordered
