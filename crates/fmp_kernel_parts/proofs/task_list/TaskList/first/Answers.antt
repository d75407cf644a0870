use Rattle.std.proofs.Common.{sym}
use Rattle.fmp_kernel_parts.proofs.Soundness.{first_there}
use Rattle.fmp_kernel_parts.proofs.task_list.TaskList.first.Goals as goal

pub from_index-requires : goal.from_index-requires
from_index-requires c = c.self.invariant.small c.in_ok-item.item (first_there c.in_ok-item.item _ (sym c.in_ok-item.ensures.value))
