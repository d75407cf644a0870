use Rattle.fmp_law_balance.proofs.Words.{number_same, nothing_same}
use Rattle.fmp_law_balance.proofs.meanings.names_are_right.Goals as goal

pub returns-clause-number : goal.returns-clause-number
returns-clause-number c = number_same

pub returns-clause-nothing : goal.returns-clause-nothing
returns-clause-nothing c = nothing_same
