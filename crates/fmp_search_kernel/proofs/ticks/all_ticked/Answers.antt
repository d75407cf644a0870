use Rattle.std.proofs.Common.{◌<◌, sym, arith}
use Rattle.fmp_search_kernel.specs.Walked.{is_ticked}
use Rattle.fmp_search_kernel.proofs.Each.{each_not}
use Rattle.fmp_search_kernel.proofs.ticks.all_ticked.Goals as goal

pub returns-then-not-is_ticked : goal.returns-then-not-is_ticked
returns-then-not-is_ticked c =
    let value = c.processors-at-end.ensures.value in
    let test = c.loop-at-test.true in
    let low : c.loop-at.at < c.args.config.now.processors = omega (arith, value, test) in
    sym (each_not (is_ticked c.args.config.now c.args.taken.now) c.loop-at.at c.new.result c.new.ensures.value (sym c.if-not-is_ticked.ensures) c.args.config.now.processors low)
