use Rattle.std.proofs.Common.{rules}
use Rattle.fmp_cli_perform.proofs.Replies.{one_more}
use Rattle.fmp_cli_perform.proofs.questions.replies_to.Goals as goal

pub loop-row-preserved : goal.loop-row-preserved
loop-row-preserved g c = rw (c.in_ok-keep.ensures) (one_more _ _ _ _ _ _ _ c.loop-row.invariant (search rules) c.in_ok-answer.ensures)
