use Rattle.fmp_text_feed.proofs.Cut.{ahead_closed, ahead_new, ahead_pushed}
use Rattle.fmp_text_feed.proofs.laws.cuts_do_not_matter.Goals as goal

pub returns-clause-start : goal.returns-clause-start
returns-clause-start c = ahead_new

pub returns-clause-piece : goal.returns-clause-piece
returns-clause-piece c = ahead_pushed

pub returns-clause-end : goal.returns-clause-end
returns-clause-end c = ahead_closed
