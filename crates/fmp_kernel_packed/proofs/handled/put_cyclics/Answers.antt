use Rattle.std.proofs.Common.{◌∙◌, List, ap, sym}
use Rattle.std.specs.Prelude.{Some}
use Rattle.fmp_kernel_order.specs.Queues.{Queues}
use Rattle.fmp_rules.specs.World.{World, with_item}
use Rattle.fmp_rules.specs.declared.machine.Cyclic.{Cyclic}
use Rattle.fmp_kernel_packed.proofs.Written.{number_kept, written_all, written_next}
use Rattle.fmp_kernel_packed.proofs.handled.put_cyclics.Goals as goal

pub get-requires : goal.get-requires
get-requires c =
    let kept = c.requires.kept in
    number_kept c.args.kept.now c.args.numbers.now kept.0 c.loop-at.at kept.1 c.loop-at-test.true

pub loop-at-preserved : goal.loop-at-preserved
loop-at-preserved c = λ xs are.
    let start = c.args.machine.now in
    let n = c.from_index.result.number in
    let v = c.get-in-loop-at.result in
    let step = written_next c.args.kept.now c.args.numbers.now xs start.cyclics c.loop-at.at n v are c.requires.long c.loop-at-test.true c.from_index.ensures.number
    (c.get.ensures ∙ ap Some (sym c.get-in-loop-at.ensures)) in
    c.put_cyclic.ensures ∙ ap (λ (w : World Queues). record w { cyclics = with_item w.cyclics n v }) (c.loop-at.invariant xs are) ∙ ap (λ (ys : List Cyclic). record start { cyclics = ys }) step

pub returns : goal.returns
returns c = λ xs are.
    let start = c.args.machine.now in
    let whole = written_all c.args.kept.now c.args.numbers.now xs start.cyclics c.loop-at.at are c.requires.long c.loop-at-test.false in
    c.loop-at.invariant xs are ∙ ap (λ (ys : List Cyclic). record start { cyclics = ys }) whole
