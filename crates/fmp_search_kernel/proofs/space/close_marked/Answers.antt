use Rattle.std.proofs.Common.{◌+◌, arith}
use Rattle.fmp_search_kernel.proofs.Closing.{one_added}
use Rattle.fmp_search_kernel.proofs.space.close_marked.Goals as goal

pub returns-then-step-lt48 : goal.returns-then-step-lt48
returns-then-step-lt48 c = λ s none has. let few = c.if-step-lt48.true in one_added c.args.closed.now (c.args.step + 3) s (omega (arith, few)) none has
