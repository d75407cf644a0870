use Rattle.std.proofs.Common.{◌∙◌, sym}
use Rattle.std.proofs.lemmas.Result.{err_from_is_err_and}
use Rattle.fmp_config.specs.Numbers.{number_step}
use Rattle.fmp_config_statements.proofs.Turns.{goes_on, fails, is_done}
use Rattle.fmp_config.proofs.numbers.all_numbers.Goals as goal

pub returns-in_err-number_step : goal.returns-in_err-number_step
returns-in_err-number_step c =
    let p = err_from_is_err_and c.from_residual.result c.from_residual.ensures.1 in
    rw (p.1, p.2) (sym (fails (number_step c.args.parts.now) tt c.args.words.now c.loop-word.word-index c.word-item.result _ c.in_err-number_step.field-0.0 c.loop-word-test.true (sym (rw c.word-item.is at c.number_step.ensures) ∙ c.in_err-number_step.was) c.loop-word.invariant))

pub loop-word-preserved : goal.loop-word-preserved
loop-word-preserved c =
    goes_on (number_step c.args.parts.now) tt c.args.words.now c.loop-word.word-index c.word-item.result _ tt c.loop-word-test.true (sym (rw c.word-item.is at c.number_step.ensures) ∙ c.in_ok-number_step.was) c.loop-word.invariant

pub returns : goal.returns
returns c = sym (is_done (number_step c.args.parts.now) tt c.args.words.now c.loop-word.word-index _ c.loop-word-test.false c.loop-word.invariant)
