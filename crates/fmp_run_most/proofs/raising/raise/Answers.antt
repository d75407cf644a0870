use Rattle.std.proofs.Common.{◌∙◌, arith}
use Rattle.std.proofs.lemmas.List.{length-set}
use Rattle.std.proofs.lemmas.Option.{slice_get_within}
use Rattle.fmp_run_most.specs.declared.figure.Figure.{Figure}
use Rattle.fmp_run_most.specs.declared.figure.Measure.TheVariants.{Ready}
use Rattle.fmp_run_most.proofs.Moved.{moved_more, others_more}
use Rattle.fmp_run_most.proofs.raising.raise.Goals as goal

pub loop-at-preserved : goal.loop-at-preserved
loop-at-preserved c =
    let so = c.loop-at.invariant in
    let as_many = so.as_many in
    let given = c.requires.1 in
    let test = c.loop-at-test.true in
    let blank : Figure = record { measure = Ready; number = 0 } in
    record {
      as_many = length-set c.loop-at.bounds c.loop-at.at c.extreme.result ∙ so.as_many;
      moved =
          moved_more c.args.figures.now c.args.bounds.now c.loop-at.bounds c.args.marks.now c.loop-at.at c.extreme.result _ so.others (omega (arith, as_many, given, test))
          (λ k low f is. so.moved k f low is) c.extreme.ensures;
      others = others_more c.args.figures.now c.args.bounds.now c.loop-at.bounds c.args.marks.now c.loop-at.at c.extreme.result blank so.others;
    }

pub returns : goal.returns
returns c =
    let all = c.loop-at-test.false in
    record {
      as_many = c.loop-at.invariant.as_many;
      each = λ k f is. let less = slice_get_within c.args.figures.now k f is in c.loop-at.invariant.moved k f (omega (arith, less, all)) is;
    }
