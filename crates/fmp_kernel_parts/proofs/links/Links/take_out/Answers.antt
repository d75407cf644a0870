use Rattle.std.proofs.Common.{sym}
use Rattle.fmp_kernel_parts.proofs.Having.{take_out-lacking}
use Rattle.fmp_kernel_parts.proofs.links.Links.take_out.Goals as goal

pub returns-in-None : goal.returns-in-None
returns-in-None g c = sym (take_out-lacking c.args.self.now c.args.item c.in-None.ensures)
