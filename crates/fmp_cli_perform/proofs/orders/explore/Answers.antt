use Rattle.std.proofs.Common.{rules}
use Rattle.fmp_cli_perform.proofs.orders.explore.Goals as goal

pub returns-in-Ok : goal.returns-in-Ok
returns-in-Ok g c = (_, (c.worked.result, c.worked.ensures, search rules))

pub returns-in-Err : goal.returns-in-Err
returns-in-Err g c = (_, (c.worked.result, c.worked.ensures, search rules))
