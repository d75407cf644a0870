use Rattle.std.proofs.Common.{rules}
use Rattle.fmp_cli_perform.proofs.scripts.sought.Goals as goal

pub returns-in-Ok : goal.returns-in-Ok
returns-in-Ok g c = (_, c.written.result, c.written.ensures, search rules)
