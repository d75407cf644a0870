use Rattle.fmp_names.proofs.Placed.{number_of-name_of, name_of-number_of}
use Rattle.fmp_names.proofs.laws.names_and_numbers_agree.Goals as goal

pub returns-clause-numbers : goal.returns-clause-numbers
returns-clause-numbers c = number_of-name_of

pub returns-clause-names : goal.returns-clause-names
returns-clause-names c = name_of-number_of
