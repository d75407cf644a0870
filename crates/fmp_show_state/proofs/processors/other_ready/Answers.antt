use Rattle.std.proofs.Common.{◌≡◌, ◌+◌, ◌-◌, ◌++◌, arith, sym, ap, ap₂, subst, ◌∙◌}
use Rattle.fmp_codes.specs.declared.numbers.Pri.{Pri}
use Rattle.fmp_rules.specs.declared.machine.Processor.{Processor}
use Rattle.fmp_show_state.specs.States.{ready_to, without_running}
use Rattle.fmp_show_state.proofs.More.{ready_more, ready_none, ready_over}
use Rattle.fmp_show_state.proofs.processors.other_ready.Goals as goal

pub loop-index-init : goal.loop-index-init
loop-index-init g c = let W = g.M.Words in c.new-others.ensures.items ∙ sym (ready_none W.ordering (W.world c.args.machine.now) c.args.p)

pub loop-index-preserved : goal.loop-index-preserved
loop-index-preserved g c = let W = g.M.Words in
    let k = W.world c.args.machine.now in
    let tasks = ap (λ (n : Pri). W.ordering.ready k.order k.tasks c.args.p n) c.new-priority.ensures.value in
    c.in_ok-add_ready.ensures
    ∙ ap₂ ◌++◌ c.loop-index.invariant (ap₂ without_running (ap (λ (x : Processor). x.running) c.processor-running.ensures) tasks)
    ∙ sym (ready_more W.ordering k c.args.p c.loop-index.index)

pub returns-then-not-may_have_ready_from : goal.returns-then-not-may_have_ready_from
returns-then-not-may_have_ready_from g c = let W = g.M.Words in
    let k = W.world c.args.machine.now in
    let n = c.loop-index.index in
    let few = c.loop-index-test.true in
    let number : c.new-priority.result.number ≡ n + 1 = ap (λ (x : Pri). x.number) c.new-priority.ensures.value ∙ omega (arith, few) in
    let over = ready_over W.ordering k c.args.p n (32 - n) (λ x le. c.may_have_ready_from.ensures c.if-not-may_have_ready_from.true x (omega (arith, le, number))) (omega (arith, few)) in
    c.loop-index.invariant ∙ sym (subst (λ m. ready_to W.ordering k c.args.p m ≡ ready_to W.ordering k c.args.p n) (omega (arith, few)) over)
