use Rattle.std.proofs.Common.{◌<◌, sym, arith}
use Rattle.fmp_search_kernel.specs.Walked.{is_out}
use Rattle.fmp_search_kernel.proofs.Each.{each_not}
use Rattle.fmp_search_kernel.proofs.ticks.is_out_of_time.Goals as goal

pub returns-then-not-is_out : goal.returns-then-not-is_out
returns-then-not-is_out c =
    let value = c.processors-at-end.ensures.value in
    let test = c.loop-at-test.true in
    let low : c.loop-at.at < c.args.config.now.processors = omega (arith, value, test) in
    sym (each_not (is_out c.args.config.now c.args.rules c.args.taken.now) c.loop-at.at c.new.result c.new.ensures.value (sym c.if-not-is_out.ensures) c.args.config.now.processors low)
