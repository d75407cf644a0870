use Rattle.std.proofs.Common.{◌∙◌, refl, arith, ap, sym}
use Rattle.fmp_dtq.specs.DataQueue.{DataQueue}
use Rattle.fmp_names.proofs.Same.{same_views, view_at}
use Rattle.fmp_kernel_objects.proofs.kinds.are_same_setups.Goals as goal

pub returns-then-not-have_same_setup : goal.returns-then-not-have_same_setup
returns-then-not-have_same_setup c =
    let one = c.args.queues.now in
    let other = c.args.others.now in
    let x = c.index-queues-at.result in
    let y = c.index-others-at.result in
    let small = c.loop-at-test.true in
    let long = c.if-queues-others.false in (
      λ t. cc,
      λ e.
          let same = c.have_same_setup.ensures.1 (
          ap (λ (q : DataQueue). q.setup) c.index-queues-at.is ∙ view_at (λ (q : DataQueue). q.setup) one other c.loop-at.at x y small (omega arith) e
          ∙ sym (ap (λ (q : DataQueue). q.setup) c.index-others-at.is)
          ) in cc,
    )

pub returns : goal.returns
returns c =
    let long = c.if-queues-others.false in (
      λ _. same_views (λ (q : DataQueue). q.setup) c.args.queues.now c.args.others.now (omega arith) (λ i d e small. c.loop-at.invariant i d e (omega arith)),
      λ _. refl,
    )
