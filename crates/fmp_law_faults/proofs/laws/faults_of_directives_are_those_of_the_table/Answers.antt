use Rattle.fmp_law_faults.proofs.Directives.{a_fault, no_fault}
use Rattle.fmp_law_faults.proofs.laws.faults_of_directives_are_those_of_the_table.Goals as goal

pub returns-clause-read : goal.returns-clause-read
returns-clause-read c = λ before hash words t s i none. no_fault before hash words t s i none

pub returns-clause-report : goal.returns-clause-report
returns-clause-report c = λ before hash words t s i kind found. a_fault before hash words t s i kind found
