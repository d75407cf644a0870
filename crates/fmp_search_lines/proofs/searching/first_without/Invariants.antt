use Rattle.std.proofs.Common.{◌-◌, ◌≤◌, ◌<◌, length}
use Rattle.fmp_search_lines.specs.Lasts.{last_at, must_at}
use Rattle.fmp_search_lines.specs.Orders.{IsBeginning, IsRight}
use Rattle.fmp_search_lines.proofs.searching.first_without.Given as goal

abbrev pub invariant-loop-bracket : goal.invariant-loop-bracket
invariant-loop-bracket g l = record {
  order : l.bracket.low < l.bracket.high;
  few : l.bracket.high ≤ length l.lasts;
  before : IsRight g.P.Player.plays (last_at l.lasts) (length l.lasts) (must_at l.musts) l.bracket.low (g.P.Player.begins l.player) l.before.items;
  none : IsBeginning g.P.Player.plays (last_at l.lasts) (length l.lasts) (must_at l.musts) l.bracket.high (g.P.Player.begins l.player) → ⊥;
}

abbrev pub decreases-loop-bracket : goal.decreases-loop-bracket
decreases-loop-bracket g l = l.bracket.high - l.bracket.low
