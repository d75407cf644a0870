use Rattle.std.proofs.Common.{◌∙◌, sym}
use Rattle.std.proofs.lemmas.Result.{err_from_is_err_and}
use Rattle.fmp_config.specs.Numbers.{member_step}
use Rattle.fmp_config_statements.proofs.Turns.{goes_on, fails, is_done}
use Rattle.fmp_config.proofs.numbers.members_in.Goals as goal

pub returns-in_err-members : goal.returns-in_err-members
returns-in_err-members c =
    let p = err_from_is_err_and c.from_residual.result c.from_residual.ensures.1 in
    rw (p.1, p.2) (sym (fails (member_step c.args.parts.now c.args.line) c.loop-word.members c.args.words.now c.loop-word.word-index c.word-item.result _ c.in_err-members.field-0.0 c.loop-word-test.true (sym (rw c.word-item.is at c.member_step.ensures) ∙ c.in_err-members.was) c.loop-word.invariant))

pub loop-word-preserved : goal.loop-word-preserved
loop-word-preserved c =
    goes_on (member_step c.args.parts.now c.args.line) c.loop-word.members c.args.words.now c.loop-word.word-index c.word-item.result _ c.in_ok-members.members c.loop-word-test.true (sym (rw c.word-item.is at c.member_step.ensures) ∙ c.in_ok-members.was) c.loop-word.invariant

pub returns : goal.returns
returns c = sym (is_done (member_step c.args.parts.now c.args.line) c.loop-word.members c.args.words.now c.loop-word.word-index _ c.loop-word-test.false c.loop-word.invariant)
