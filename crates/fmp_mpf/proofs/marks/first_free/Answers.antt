use Rattle.std.proofs.Common.{arith}
use Rattle.fmp_mpf.proofs.Bits.{first_some, first_none}
use Rattle.fmp_mpf.proofs.marks.first_free.Goals as goal

pub returns-then-block-from-clause-value : goal.returns-then-block-from-clause-value
returns-then-block-from-clause-value c = first_some c.args.word c.args.blocks c.trailing_ones-block.result (omega arith) c.trailing_ones-block.ensures (omega arith)

pub returns-else-block-from-clause-value : goal.returns-else-block-from-clause-value
returns-else-block-from-clause-value c = first_none c.args.word c.args.blocks c.trailing_ones-block.result (omega arith) c.trailing_ones-block.ensures (omega arith)
