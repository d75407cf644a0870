use Rattle.fmp_trace_check.proofs.Heads.{headed}
use Rattle.fmp_trace_check.proofs.report.quick_head.Goals as goal

pub returns : goal.returns
returns c =
    headed c.args.names.now c.in_ok-p.p c.args.text.now c.in_ok-after_byte.field-0.now c.in_ok-digit.after_digit.now c.in_ok-runner.runner.now c.in_ok-event.event.now c.in_ok-digit.digit
    c.in_ok-after_byte.ensures c.in_ok-digit.ensures c.in_ok-runner.ensures c.in_ok-p.ensures.value c.in_ok-p.ensures.digit c.in_ok-event.ensures
