use Rattle.fmp_cli_help.proofs.ReportWords.{code_reported, answer_reported, attribute_reported}
use Rattle.fmp_cli_help.proofs.laws.answers_and_attributes_are_reported.Goals as goal

pub returns-clause-codes : goal.returns-clause-codes
returns-clause-codes c = code_reported

pub returns-clause-answers : goal.returns-clause-answers
returns-clause-answers c = answer_reported

pub returns-clause-attributes : goal.returns-clause-attributes
returns-clause-attributes c = attribute_reported
