use Rattle.fmp_text_feed.proofs.Cut.{pieces_done, pieces_failed, pieces_prefix}
use Rattle.fmp_text_feed.proofs.laws.pieces_give_their_text.Goals as goal

pub returns-clause-prefix : goal.returns-clause-prefix
returns-clause-prefix c = pieces_prefix

pub returns-clause-fault : goal.returns-clause-fault
returns-clause-fault c = pieces_failed

pub returns-clause-done : goal.returns-clause-done
returns-clause-done c = pieces_done
