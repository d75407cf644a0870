use Rattle.fmp_cli_perform.proofs.Done.{unlisted}
use Rattle.fmp_cli_perform.proofs.lists.put_out.Goals as goal

pub returns : goal.returns
returns g c = unlisted c.settled_write.result c.settled_write.ensures.ends
