use Rattle.std.proofs.Common.{◌≡◌, ◌++◌, drop}
use Rattle.fmp_search_question.proofs.Filled.{starred}
use Rattle.fmp_search_question.proofs.resolving.text_after.Given as goal

-- the bytes so far, and those of the pieces that are left
abbrev pub invariant-loop-piece : goal.invariant-loop-piece
invariant-loop-piece l = l.text.items ++ starred (drop l.piece-index l.others) ≡ l.fn.first ++ starred l.fn.others
