use Rattle.std.proofs.Common.{ap, ◌∙◌}
use Rattle.fmp_kernel_parts.specs.Tasks.{has_task}
use Rattle.fmp_kernel_parts.proofs.Tasks.{gone_from}
use Rattle.fmp_time.proofs.timers.begin.Goals as goal

pub push_last-requires : goal.push_last-requires
push_last-requires c = ap (has_task c.in-Wait.task) c.remove.ensures.tasks ∙ gone_from c.in-Wait.task c.args.waits.now
