use Rattle.fmp_text.proofs.EventFaults.{event_fault}
use Rattle.fmp_text.proofs.EventFaultsRead.{event_reported}
use Rattle.fmp_text.proofs.laws.faults_are_those_of_the_table.Goals as goal

pub returns-clause-read : goal.returns-clause-read
returns-clause-read c = event_fault

pub returns-clause-report : goal.returns-clause-report
returns-clause-report c = event_reported
