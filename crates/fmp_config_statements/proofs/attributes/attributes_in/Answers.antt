use Rattle.std.proofs.Common.{◌∙◌, sym}
use Rattle.std.proofs.lemmas.Result.{err_from_is_err_and}
use Rattle.fmp_config_statements.specs.Attributes.{attribute_step}
use Rattle.fmp_config_statements.proofs.Turns.{goes_on, fails, is_done}
use Rattle.fmp_config_statements.proofs.attributes.attributes_in.Goals as goal

pub returns-in_err-found : goal.returns-in_err-found
returns-in_err-found c =
    let p = err_from_is_err_and c.from_residual.result c.from_residual.ensures.1 in
    rw (p.1, p.2) (sym (fails (attribute_step c.args.allowed.now) c.loop-word.found c.args.words.now c.loop-word.word-index c.word-item.result _ c.in_err-found.field-0.0 c.loop-word-test.true (sym (rw c.word-item.is at c.attribute_step.ensures) ∙ c.in_err-found.was) c.loop-word.invariant))

pub loop-word-preserved : goal.loop-word-preserved
loop-word-preserved c =
    goes_on (attribute_step c.args.allowed.now) c.loop-word.found c.args.words.now c.loop-word.word-index c.word-item.result _ c.in_ok-found.found c.loop-word-test.true (sym (rw c.word-item.is at c.attribute_step.ensures) ∙ c.in_ok-found.was) c.loop-word.invariant

pub returns : goal.returns
returns c = sym (is_done (attribute_step c.args.allowed.now) c.loop-word.found c.args.words.now c.loop-word.word-index _ c.loop-word-test.false c.loop-word.invariant)
