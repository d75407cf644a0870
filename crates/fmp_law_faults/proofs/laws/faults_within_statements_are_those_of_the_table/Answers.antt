use Rattle.fmp_law_faults.proofs.Misfits.{a_token_fault, no_token_fault}
use Rattle.fmp_law_faults.proofs.laws.faults_within_statements_are_those_of_the_table.Goals as goal

pub returns-clause-read : goal.returns-clause-read
returns-clause-read c = λ before t s name glyphs l next none. no_token_fault before t s name glyphs l next none

pub returns-clause-report : goal.returns-clause-report
returns-clause-report c = λ before t s name glyphs l next kind found. a_token_fault before t s name glyphs l next kind found
