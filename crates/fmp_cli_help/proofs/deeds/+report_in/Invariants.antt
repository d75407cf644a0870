use Rattle.std.proofs.Common.{length}
use Rattle.fmp_cli_help.proofs.deeds.+report_in.Given as goal

abbrev pub decreases-report_in : goal.decreases-report_in
decreases-report_in l = length l.rows.now
