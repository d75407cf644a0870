use Rattle.fmp_text_scripts.proofs.ScriptFaults.{line_fault, line_reported}
use Rattle.fmp_text_scripts.proofs.laws.faults_are_those_of_the_table.Goals as goal

pub returns-clause-read : goal.returns-clause-read
returns-clause-read c = line_fault

pub returns-clause-report : goal.returns-clause-report
returns-clause-report c = line_reported
