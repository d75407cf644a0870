use Rattle.fmp_text.proofs.Fronted.{no_blanks, blanks_more}
use Rattle.fmp_text.proofs.quick.after_all_blanks.Goals as goal

pub loop-more-init : goal.loop-more-init
loop-more-init c = no_blanks c.args.text.now

pub loop-more-preserved : goal.loop-more-preserved
loop-more-preserved c = blanks_more c.args.text.now c.loop-more.rest.now c.in-Some.more.now c.loop-more.invariant c.in-Some.ensures
