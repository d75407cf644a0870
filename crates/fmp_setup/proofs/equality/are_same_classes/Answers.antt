use Rattle.std.proofs.Common.{◌∙◌, refl, arith, ap, sym}
use Rattle.fmp_setup.specs.declared.parts.NamedClass.{NamedClass}
use Rattle.fmp_names.proofs.Same.{same_views, view_at}
use Rattle.fmp_setup.proofs.equality.are_same_classes.Goals as goal

pub returns : goal.returns
returns c =
    let long = c.if-one-other.false in (
      λ _. (
        same_views (λ (n : NamedClass). n.class) c.args.one.now c.args.other.now (omega arith) (λ i d e small. (c.loop-at.invariant i d e (omega arith)).0),
        same_views (λ (n : NamedClass). n.name.items) c.args.one.now c.args.other.now (omega arith) (λ i d e small. (c.loop-at.invariant i d e (omega arith)).1),
      ),
      λ _. refl,
    )

pub returns-then-not-is_same_named : goal.returns-then-not-is_same_named
returns-then-not-is_same_named c =
    let one = c.args.one.now in
    let other = c.args.other.now in
    let at = c.loop-at.at in
    let x = c.index-one-at.result in
    let y = c.index-other-at.result in
    let small = c.loop-at-test.true in
    let long = c.if-one-other.false in (
      λ t. cc,
      λ e.
          let same = c.is_same_named.ensures.1 (
            ap (λ (n : NamedClass). n.class) c.index-one-at.is ∙ view_at (λ (n : NamedClass). n.class) one other at x y small (omega arith) e.0 ∙ sym (ap (λ (n : NamedClass). n.class) c.index-other-at.is),
            ap (λ (n : NamedClass). n.name.items) c.index-one-at.is ∙ view_at (λ (n : NamedClass). n.name.items) one other at x y small (omega arith) e.1 ∙ sym (ap (λ (n : NamedClass). n.name.items) c.index-other-at.is),
          ) in cc,
    )
