use Rattle.fmp_calls.proofs.Matched.{call_of-parts, call_of-agrees, named-text_of, text_of-name_of, kinds_of-name_of}
use Rattle.fmp_calls.proofs.laws.tables_agree.Goals as goal

pub returns-clause-parts : goal.returns-clause-parts
returns-clause-parts c = call_of-parts

pub returns-clause-agrees : goal.returns-clause-agrees
returns-clause-agrees c = call_of-agrees

pub returns-clause-texts : goal.returns-clause-texts
returns-clause-texts c = named-text_of

pub returns-clause-names : goal.returns-clause-names
returns-clause-names c = λ call. (text_of-name_of call, kinds_of-name_of call)
