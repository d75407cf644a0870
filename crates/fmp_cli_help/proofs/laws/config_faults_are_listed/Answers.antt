use Rattle.fmp_cli_help.proofs.Listed.{config_listed, config_listed_once, config_in_order, config_reported}
use Rattle.fmp_cli_help.proofs.laws.config_faults_are_listed.Goals as goal

pub returns-clause-every : goal.returns-clause-every
returns-clause-every c = config_listed

pub returns-clause-once : goal.returns-clause-once
returns-clause-once c = config_listed_once

pub returns-clause-order : goal.returns-clause-order
returns-clause-order c = config_in_order

pub returns-clause-report : goal.returns-clause-report
returns-clause-report c = config_reported
