use Rattle.std.proofs.Common.{◌∙◌, List, sym, subst, ap, arith, length, slice_index_or}
use Rattle.std.specs.Prelude.{Some}
use Rattle.std.proofs.lemmas.Option.{slice_get_within}
use Rattle.fmp_kernel_objects.specs.Fitting.{AreFitting}
use Rattle.fmp_kernel_objects.proofs.Numbered.{becoming_first, becoming_fits, becoming_next, becoming_last, numbers_at}
use Rattle.fmp_kernel_objects.proofs.objects.Objects.become_kept.Goals as goal

pub loop-at-init : goal.loop-at-init
loop-at-init g c =
    let V = g.row.T.Denot in
    let kept = c.requires.kept in
    becoming_first g.T.Part.fits c.args.kept.now c.args.numbers.now c.self.inside.items.items kept.0 kept.1
    (subst (λ (xs : List V). AreFitting g.T.Part.fits xs kept.0) (sym c.self.view_is) kept.2)

pub invariant_of-self : goal.invariant_of-self
invariant_of-self g c =
    let long = c.loop-at.invariant.long in
    let as_long = c.requires.long in
    let same = ap length c.self.view_is in
    let few = c.self.invariant in
    omega (arith, long, as_long, same, few)

pub index_mut-requires : goal.index_mut-requires
index_mut-requires g c =
    let long = c.loop-at.invariant.long in
    let small = c.loop-at-test.true in
    omega (arith, long, small)

pub get-requires : goal.get-requires
get-requires g c =
    let kept = c.requires.kept in
    let d = c.index_mut.result.now in
    slice_get_within c.args.kept.now (slice_index_or c.args.numbers.now c.loop-at.at 0) (slice_index_or kept.0 c.loop-at.at d)
    (numbers_at c.args.kept.now c.args.numbers.now kept.0 c.loop-at.at d kept.1 c.loop-at-test.true)

pub copy_from-requires : goal.copy_from-requires
copy_from-requires g c =
    let kept = c.requires.kept in
    becoming_fits g.T.Part.fits c.args.kept.now c.args.numbers.now c.loop-at.self-inside.items.items kept.0 c.loop-at.at c.index_mut.result.now c.get.result.now kept.1
    c.loop-at.invariant c.loop-at-test.true c.index_mut.ensures.value c.get.ensures

pub loop-at-preserved : goal.loop-at-preserved
loop-at-preserved g c =
    becoming_next g.T.Part.fits c.args.kept.now c.args.numbers.now c.loop-at.self-inside.items.items c.loop-at.at c.copy_from.new.self c.loop-at.invariant c.loop-at-test.true
    (c.get.ensures ∙ ap Some (sym c.copy_from.ensures))

pub returns : goal.returns
returns g c = λ xs are.
    becoming_last g.T.Part.fits c.args.kept.now c.args.numbers.now c.loop-at.self-inside.items.items c.loop-at.at xs c.loop-at.invariant c.loop-at-test.false are
