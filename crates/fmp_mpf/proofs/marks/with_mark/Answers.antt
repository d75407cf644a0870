use Rattle.fmp_mpf.proofs.Bits.{mark_set, mark_cleared, marks_past}
use Rattle.fmp_mpf.proofs.marks.with_mark.Goals as goal

pub returns-then-block-ge64 : goal.returns-then-block-ge64
returns-then-block-ge64 c = marks_past c.args.word c.args.block c.args.marked c.if-block-ge64.true

pub returns-then-marked : goal.returns-then-marked
returns-then-marked c = rw c.if-marked.true (mark_set c.args.word c.args.block c.if-block-ge64.false)

pub returns-else-marked : goal.returns-else-marked
returns-else-marked c = rw c.if-marked.false (mark_cleared c.args.word c.args.block c.if-block-ge64.false)
