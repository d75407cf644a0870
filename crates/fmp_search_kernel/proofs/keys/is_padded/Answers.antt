use Rattle.std.proofs.Common.{arith}
use Rattle.fmp_search_kernel.proofs.Padded.{padded_by}
use Rattle.fmp_search_kernel.proofs.keys.is_padded.Goals as goal

pub returns : goal.returns
returns c = λ yes. padded_by c.args.count c.args.numbers.now (λ i from small. let end = c.loop-at-test.false in c.loop-at.invariant yes i from (omega (arith, small, end)))
