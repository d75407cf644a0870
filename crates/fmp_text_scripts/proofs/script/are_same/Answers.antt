use Rattle.std.proofs.Common.{◌∙◌, refl, arith, ap, sym}
use Rattle.fmp_names.proofs.Same.{same_views, view_at}
use Rattle.fmp_text_scripts.specs.Views.{steps_of}
use Rattle.fmp_text_scripts.proofs.script.are_same.Goals as goal

pub returns : goal.returns
returns c =
    let long = c.if-one-other.false in
    (λ _. same_views steps_of c.args.one.now c.args.other.now (omega arith) (λ i d e small. c.loop-at.invariant i d e (omega arith)), λ _. refl)

pub returns-then-not-is_same_script : goal.returns-then-not-is_same_script
returns-then-not-is_same_script c =
    let one = c.args.one.now in
    let other = c.args.other.now in
    let at = c.loop-at.at in
    let x = c.index-one-at.result in
    let y = c.index-other-at.result in
    let small = c.loop-at-test.true in
    let long = c.if-one-other.false in (
      λ t. cc,
      λ e.
          let same = c.is_same_script.ensures.1 (
          ap steps_of c.index-one-at.is ∙ view_at steps_of one other at x y small (omega arith) e ∙ sym (ap steps_of c.index-other-at.is)
          ) in cc,
    )
