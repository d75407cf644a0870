use Rattle.fmp_calls.proofs.Known.{found_known}
use Rattle.fmp_calls.proofs.table.call_at.Goals as goal

pub returns : goal.returns
returns c = found_known c.family.result.now _ c.get.result c.family.ensures c.get.ensures.lookup.0 c.get.ensures.lookup.1
