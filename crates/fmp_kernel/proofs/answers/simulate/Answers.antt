use Rattle.std.proofs.Common.{◌<◌, ◌∙◌, length, arith}
use Rattle.std.proofs.lemmas.Grind.{common_steps}
use Rattle.fmp_rules.specs.Arrivals.{State, numbered}
use Rattle.fmp_rules.specs.Step.{step}
use Rattle.fmp_law_safety.proofs.Booted.{runs_safe}
use Rattle.fmp_law_balance.proofs.Booted.{balanced_throughout}
use Rattle.fmp_kernel.proofs.Histories.{answers_more, answers_end}
use Rattle.fmp_kernel.proofs.answers.simulate.Goals as goal

pub loop-event-preserved : goal.loop-event-preserved
loop-event-preserved c =
    let before = c.loop-event.invariant in
    let m : State = before.state in
    let below : c.loop-event.event-index < length c.args.events.now = omega arith in
    record {
      room = rw c.push_reserved.ensures.capacity before.room;
      count = grind (arith, common_steps, c.push_reserved.ensures.items, before.count);
      processors = c.step.ensures.processors ∙ before.processors;
      state = (step numbered m c.event-item.result).0;
      stands = c.step.ensures.stands m before.stands;
      report = rw (c.push_reserved.ensures.items, c.step.ensures.record m before.stands)
          (answers_more m c.args.events.now c.loop-event.event-index c.event-item.result c.loop-event.records.items _ below c.event-item.is before.report);
    }

pub returns-clause-safe : goal.returns-clause-safe
returns-clause-safe c = runs_safe c.args.config.now c.args.events.now c.in_ok-kernel.ensures.valid c.requires

pub returns-clause-balanced : goal.returns-clause-balanced
returns-clause-balanced c =
    let valid = c.in_ok-kernel.ensures.valid in
    let made = answers_end c.loop-event.invariant.state c.args.events.now c.loop-event.event-index c.loop-event.records.items _ (omega (arith, c.loop-event-test)) c.loop-event.invariant.report in
    rw made (balanced_throughout c.args.config.now c.args.events.now valid.few (runs_safe c.args.config.now c.args.events.now valid c.requires))
