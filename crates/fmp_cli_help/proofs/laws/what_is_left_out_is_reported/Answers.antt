use Rattle.fmp_cli_help.proofs.Unread.{call_is_read, statement_is_read, left_out_is_reported}
use Rattle.fmp_cli_help.proofs.laws.what_is_left_out_is_reported.Goals as goal

pub returns-clause-report : goal.returns-clause-report
returns-clause-report c = left_out_is_reported

pub returns-clause-calls : goal.returns-clause-calls
returns-clause-calls c = call_is_read

pub returns-clause-statements : goal.returns-clause-statements
returns-clause-statements c = statement_is_read
