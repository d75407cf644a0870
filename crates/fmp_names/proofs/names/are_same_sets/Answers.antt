use Rattle.std.proofs.Common.{refl, ◌∙◌, sym, arith}
use Rattle.fmp_names.specs.Names.{texts}
use Rattle.fmp_names.proofs.Same.{same_views, view_at}
use Rattle.fmp_names.proofs.names.are_same_sets.Goals as goal

pub returns : goal.returns
returns c =
    let long = c.type_inv.one in
    let other_long = c.type_inv.other in
    (λ _. same_views texts c.args.one.now c.args.other.now (long ∙ sym other_long) (λ i d e small. c.loop-place.invariant i d e (omega (arith, long))), λ _. refl)

pub returns-then-not-is_same_set : goal.returns-then-not-is_same_set
returns-then-not-is_same_set c =
    let long = c.type_inv.one in
    let other_long = c.type_inv.other in
    let within = c.loop-place-test.true in (
      λ t. cc,
      λ same.
          let here = view_at texts c.args.one.now c.args.other.now c.loop-place.place c.index-one-place.result c.index-other-place.result (omega (arith, long, within)) (omega (arith, other_long, within)) same in
          let is = c.is_same_set.ensures.1 here in
          let differs = c.if-not-is_same_set.true in
          cc,
    )
