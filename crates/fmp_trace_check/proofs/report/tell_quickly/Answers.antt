use Rattle.std.proofs.Common.{◌∙◌}
use Rattle.fmp_trace_check.proofs.Heads.{lined}
use Rattle.fmp_trace_check.proofs.report.tell_quickly.Goals as goal

pub returns : goal.returns
returns c = λ report.
    lined c.args.names.now c.args.line.now c.in-Some.text.now c.in-Some.ensures ∙ c.in-Some-quick_head.ensures ∙ c.tell_front.ensures report
