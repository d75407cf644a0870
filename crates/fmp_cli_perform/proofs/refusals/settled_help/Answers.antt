use Rattle.fmp_cli_perform.proofs.Done.{unlisted}
use Rattle.fmp_cli_perform.proofs.refusals.settled_help.Goals as goal

pub returns-else-use_stderr : goal.returns-else-use_stderr
returns-else-use_stderr c = unlisted c.settled_write.result c.settled_write.ensures.ends
