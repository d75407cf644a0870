use Rattle.fmp_law_faults.proofs.Ends.{a_fault, bad_end, cut_end, no_fault}
use Rattle.fmp_law_faults.proofs.laws.faults_of_ends_are_those_of_the_table.Goals as goal

pub returns-clause-read : goal.returns-clause-read
returns-clause-read c = λ text s at fits done none. no_fault text s fits done at none

pub returns-clause-report : goal.returns-clause-report
returns-clause-report c = λ text s at fits done kind found. a_fault text s fits done at kind found

pub returns-clause-bad : goal.returns-clause-bad
returns-clause-bad c = λ text line fits none is. bad_end text fits none line is

pub returns-clause-cut : goal.returns-clause-cut
returns-clause-cut c = λ text line fits none is. cut_end text fits none line is
