use Rattle.fmp_law_faults.proofs.Questions.{fault_read, fault_reported}
use Rattle.fmp_law_faults.proofs.laws.faults_of_questions_are_those_of_the_table.Goals as goal

pub returns-clause-read : goal.returns-clause-read
returns-clause-read c = fault_read

pub returns-clause-report : goal.returns-clause-report
returns-clause-report c = fault_reported
