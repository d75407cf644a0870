use Rattle.fmp_trace_check.proofs.Heads.{after_some}
use Rattle.fmp_trace_check.proofs.report.after_byte.Goals as goal

pub returns : goal.returns
returns c = after_some c.args.byte c.args.text.now c.following.result c.following.ensures
