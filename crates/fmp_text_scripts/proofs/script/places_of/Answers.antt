use Rattle.std.proofs.Common.{arith, refl, ◌∙◌}
use Rattle.std.proofs.lemmas.List.{length-set}
use Rattle.fmp_text_scripts.proofs.Found.{one_place}
use Rattle.fmp_text_scripts.proofs.script.places_of.Goals as goal

pub loop-function-init : goal.loop-function-init
loop-function-init c = (refl, λ f less. absurd (omega (arith, less)))

pub loop-function-preserved : goal.loop-function-preserved
loop-function-preserved c =
    let places = c.loop-function.places in
    let at = c.loop-function.function in
    let long = c.loop-function.invariant.0 in (
      length-set places at c.place_of.result ∙ long,
      one_place c.args.scripts.now places at c.place_of.result (omega (arith, long, c.loop-function-test.true)) c.place_of.ensures c.loop-function.invariant.1,
    )

pub returns : goal.returns
returns c = λ f less. c.loop-function.invariant.1 f (omega (arith, less, c.loop-function-test.false))
