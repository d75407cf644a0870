use Rattle.std.proofs.Common.{◌<◌, sym, arith}
use Rattle.fmp_search_kernel.specs.Walked.{is_idle_on}
use Rattle.fmp_search_kernel.proofs.Each.{each_not}
use Rattle.fmp_search_kernel.proofs.sights.are_idle.Goals as goal

pub returns-then-not-is_idle : goal.returns-then-not-is_idle
returns-then-not-is_idle c =
    let value = c.processors-at-end.ensures.value in
    let test = c.loop-at-test.true in
    let low : c.loop-at.at < c.args.config.now.processors = omega (arith, value, test) in
    sym (each_not (is_idle_on c.args.kernel.now) c.loop-at.at c.new.result c.new.ensures.value (sym c.if-not-is_idle.ensures) c.args.config.now.processors low)
