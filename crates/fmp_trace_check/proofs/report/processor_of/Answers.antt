use Rattle.std.proofs.Common.{arith}
use Rattle.fmp_trace_check.proofs.Heads.{digit_processor}
use Rattle.fmp_trace_check.proofs.report.processor_of.Goals as goal

pub returns-then-digit-processors-clause-value : goal.returns-then-digit-processors-clause-value
returns-then-digit-processors-clause-value c =
    digit_processor c.args.names.now c.new.result c.args.digit
    (omega (arith, c.new.ensures.number, c.if-digit-ge49.true))
    (omega (arith, c.new.ensures.number, c.processors.ensures.value, c.if-digit-processors.true))
