use Rattle.std.proofs.Common.{◌≡◌, ◌≤◌, true, false, Option, List, length, ap, sym, subst, ◌∙◌}
use Rattle.std.specs.Prelude.{is_some}
use Rattle.fmp_codes.specs.declared.records.Answer.TheVariants as answer
use Rattle.fmp_codes.specs.declared.records.Event.{Event}
use Rattle.fmp_codes.specs.declared.records.Event.TheVariants as event
use Rattle.fmp_codes.specs.declared.records.Release.{Release}
use Rattle.fmp_codes.specs.declared.records.Runner.{Runner}
use Rattle.fmp_setup.specs.Setup.{has_time}
use Rattle.fmp_setup.specs.declared.setup.Timer.{Timer}
use Rattle.fmp_rules.specs.declared.machine.Processor.{Processor}
use Rattle.fmp_rules.specs.Effects.{Effect}
use Rattle.fmp_rules.specs.World.{World, handler, processor, runner_of}
use Rattle.fmp_rules.specs.Rows.{plain}
use Rattle.fmp_rules.specs.Step.{before_event, dispatched, settled, unchanged}
use Rattle.fmp_rules.specs.Tick.{counted_down, tick}
use Rattle.fmp_step.proofs.Dispatched.{still, taken}
use Rattle.fmp_step.proofs.stepping.step_tick.Goals as goal

pub unchanged-requires-then-is_settled-clause-runner : goal.unchanged-requires-then-is_settled-clause-runner
unfolding counted_down
unchanged-requires-then-is_settled-clause-runner g c = let W = g.M.Words in
    let w = W.world c.args.machine.now in
    let v = W.world c.tick-has_served.new.machine in
    let moved : v ≡ counted_down w c.args.p = c.tick-has_served.ensures.counted c.if-not-has_served.true in
    c.runner-report.ensures ∙ ap (λ (x : World W.Order). runner_of x c.args.p) (sym moved)

pub returns-then-is_settled-clause-step : goal.returns-then-is_settled-clause-step
unfolding counted_down
returns-then-is_settled-clause-step g c = let W = g.M.Words in
    let k = W.ordering in
    let p = c.args.p in
    let w = W.world c.args.machine.now in
    let v = W.world c.tick-has_served.new.machine in
    let moved : v ≡ counted_down w p = c.tick-has_served.ensures.counted c.if-not-has_served.true in
    let few : length w.processors ≤ 8 = subst (λ (x : World W.Order). length x.processors ≤ 8) moved c.is_settled.ensures.few in
    let stays : dispatched k (counted_down w p) p ≡ counted_down w p =
    subst (λ (x : World W.Order). dispatched k x p ≡ x) moved (c.is_settled.ensures.settled c.if-is_settled.true) in
    let did : ◌≡◌ {A = World W.Order × Effect} (counted_down w p, plain answer.Taken) (tick k w p) =
    ap (λ (x : World W.Order). (x, plain answer.Taken)) (sym moved)
    ∙ ap (λ (rs : List Release). (v, record (plain answer.Taken) { releases = rs })) (sym (c.tick-has_served.ensures.unreported c.if-not-has_served.true))
    ∙ c.tick-has_served.ensures.step in
    let counts : has_time w.timer p ≡ true = subst (λ (x : Timer). has_time x p ≡ true) c.timer.ensures (sym c.has_time.ensures ∙ c.if-not-has_time.false) in
    let unlocked : (processor w p).locked ≡ false = subst (λ (x : Processor). x.locked ≡ false) c.processor.ensures c.if-processor.false in
    let idle : is_some (handler w p) ≡ false = subst (λ (x : Option Runner). is_some x ≡ false) c.handler.ensures (sym c.is_some.ensures ∙ c.if-is_some.false) in
    taken k w p _ counts unlocked idle
    (c.unchanged-then-is_settled.ensures
    ∙ ap (λ (e : Event). unchanged v e p answer.Taken) c.requires.event
    ∙ ap (λ (x : World W.Order). unchanged x (event.Tick p) p answer.Taken) moved
    ∙ sym (still k w p few stays)
    ∙ ap (settled k (before_event k w (event.Tick p) p)) did)
