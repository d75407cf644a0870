use Rattle.std.proofs.Common.{◌≡◌, take}
use Rattle.fmp_search_pattern.proofs.question.Pattern.copy.Given as goal

abbrev pub invariant-loop-piece : goal.invariant-loop-piece
invariant-loop-piece l = l.pieces.items ≡ take l.piece-index l.piece-items
