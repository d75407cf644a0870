use Rattle.std.proofs.Common.{arith}
use Rattle.fmp_search_kernel.proofs.Bounds.{roomy_start}
use Rattle.fmp_search_kernel.proofs.walker.Walker.new.Goals as goal

pub invariant_of-result : goal.invariant_of-result
invariant_of-result c = (c.in_ok-boot-2.ensures.processors, c.in_ok-boot.ensures.same, c.in_ok-boot.ensures.processors, roomy_start _ (omega arith))
