use Rattle.std.proofs.Common.{ℕ, ◌<◌, Option, sym, ap, ◌∙◌, arith}
use Rattle.fmp_search_orders.specs.Orders.{is_near}
use Rattle.fmp_search_kernel.specs.Walked.{count_in, is_beside}
use Rattle.fmp_search_kernel.proofs.Each.{each_not}
use Rattle.fmp_search_kernel.proofs.ticks.is_near.Goals as goal

pub returns-then-not-is_beside : goal.returns-then-not-is_beside
returns-then-not-is_beside c =
    let value = c.processors-at-end.ensures.value in
    let test = c.loop-at-test.true in
    let low : c.loop-at.at < c.args.config.now.processors = omega (arith, value, test) in
    sym (ap (λ (d : Option ℕ). is_near c.args.config.now d (count_in c.args.taken.now) c.args.count) c.in-Some.is
    ∙ each_not (is_beside c.args.config.now c.in-Some.drift c.args.taken.now c.args.count) c.loop-at.at c.new-q.result c.new-q.ensures.value (sym c.if-not-is_beside.ensures) c.args.config.now.processors low)
