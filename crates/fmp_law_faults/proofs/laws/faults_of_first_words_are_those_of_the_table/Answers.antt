use Rattle.fmp_law_faults.proofs.FirstWords.{a_fault, no_fault}
use Rattle.fmp_law_faults.proofs.laws.faults_of_first_words_are_those_of_the_table.Goals as goal

pub returns-clause-read : goal.returns-clause-read
returns-clause-read c = λ before t s is plain none. no_fault before t s is plain none

pub returns-clause-report : goal.returns-clause-report
returns-clause-report c = λ before t s is plain kind f. a_fault before t s is plain kind f
