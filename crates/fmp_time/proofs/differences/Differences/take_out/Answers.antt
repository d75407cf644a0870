use Rattle.std.proofs.Common.{sym}
use Rattle.fmp_time.proofs.Leaving.{stays}
use Rattle.fmp_time.proofs.differences.Differences.take_out.Goals as goal

pub returns-else-stands : goal.returns-else-stands
returns-else-stands c = sym (stays c.args.self.now c.args.item (c.stands.ensures.no_list c.if-stands.false))
