use Rattle.std.proofs.Common.{arith}
use Rattle.fmp_trace.proofs.Lengths.{ascend_few, line_few, lines_few}
use Rattle.fmp_trace.proofs.laws.lines_are_short.Goals as goal

pub returns-clause-line : goal.returns-clause-line
returns-clause-line c = λ names n r valid releases requests. line_few names valid n r releases requests

pub returns-clause-all : goal.returns-clause-all
returns-clause-all c = λ names n records valid fit. lines_few names valid n records fit

pub returns-clause-requests : goal.returns-clause-requests
returns-clause-requests c = λ most requests up. omega (arith, ascend_few most 0 requests (omega arith) up)
