use Rattle.std.proofs.Common.{arith}
use Rattle.fmp_trace.proofs.Lengths.{line_few}
use Rattle.fmp_trace_buffer.proofs.printing.line_is_short.Goals as goal

pub returns : goal.returns
returns c = λ n. line_few c.args.names.now c.validity.ensures n c.args.report.now (omega (arith, c.len-releases.ensures.value, c.len-releases.ensures.few)) (rw c.as_slice-requests.ensures.value at c.as_slice-requests.ensures.few)
