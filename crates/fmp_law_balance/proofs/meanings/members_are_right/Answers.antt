use Rattle.fmp_law_balance.proofs.Words.{member_same}
use Rattle.fmp_law_balance.proofs.meanings.members_are_right.Goals as goal

pub returns : goal.returns
returns c = member_same
