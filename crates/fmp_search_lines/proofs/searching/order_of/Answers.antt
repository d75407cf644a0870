use Rattle.std.proofs.Common.{length}
use Rattle.fmp_search_lines.specs.Lasts.{last_at}
use Rattle.fmp_search_lines.proofs.Steps.{ends, goes_on, stops}
use Rattle.fmp_search_lines.proofs.searching.order_of.Goals as goal

pub returns-in_default : goal.returns-in_default
returns-in_default c =
    stops (last_at c.args.lasts.now) (length c.args.lasts.now) c.args.steps.now c.loop-step.step-index c.loop-step.taken.top
    c.loop-step.taken.pending.items c.loop-step.order.items _ c.loop-step.invariant c.loop-step-test.true c.in_default.ensures

pub loop-step-preserved : goal.loop-step-preserved
loop-step-preserved c =
    goes_on (last_at c.args.lasts.now) (length c.args.lasts.now) c.args.steps.now c.loop-step.step-index c.loop-step.taken.top
    c.loop-step.taken.pending.items c.loop-step.order.items _ c.loop-step.invariant c.loop-step-test.true c.in-Some.line
    c.take.new.self.top c.take.new.self.pending.items c.push.new.self.items c.in-Some.ensures c.take.ensures.top c.take.ensures.pending
    c.in_ok-push.ensures.items

pub returns : goal.returns
returns c =
    ends (last_at c.args.lasts.now) (length c.args.lasts.now) c.args.steps.now c.loop-step.step-index c.loop-step.taken.top
    c.loop-step.taken.pending.items c.loop-step.order.items _ c.loop-step.invariant c.loop-step-test.false
