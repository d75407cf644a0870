use Rattle.fmp_cli_help.proofs.Listed.{text_listed, text_listed_once, text_in_order, text_reported}
use Rattle.fmp_cli_help.proofs.laws.text_faults_are_listed.Goals as goal

pub returns-clause-every : goal.returns-clause-every
returns-clause-every c = text_listed

pub returns-clause-once : goal.returns-clause-once
returns-clause-once c = text_listed_once

pub returns-clause-order : goal.returns-clause-order
returns-clause-order c = text_in_order

pub returns-clause-report : goal.returns-clause-report
returns-clause-report c = text_reported
