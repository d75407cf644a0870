use Rattle.std.proofs.Common.{◌≡◌, drop}
use Rattle.fmp_search_pattern.specs.Matching as matching
use Rattle.fmp_search_pattern.proofs.matching.stand.Given as goal

abbrev pub invariant-loop-piece : goal.invariant-loop-piece
invariant-loop-piece l = matching.stand (drop l.piece-index l.piece-items) l.rest ≡ matching.stand l.fn.pattern l.fn.text
