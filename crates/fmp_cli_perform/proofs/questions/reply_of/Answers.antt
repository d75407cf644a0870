use Rattle.fmp_cli_perform.proofs.Replies.{answer_over}
use Rattle.fmp_cli_perform.proofs.questions.reply_of.Goals as goal

pub returns : goal.returns
returns g c = answer_over c.args.texts.now.config.items c.args.texts.now.scripts.items c.args.request.now _ c.reply_to-run.result c.settled.result
    c.as_slice.ensures.value c.as_slice-2.ensures.value c.reply_to-run.ensures.steps c.reply_to-run.ensures.lasting c.settled.ensures
