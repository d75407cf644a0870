use Rattle.std.proofs.Common.{◌≤◌, length}
use Rattle.fmp_search_lines.specs.Lasts.{last_at}
use Rattle.fmp_search_lines.proofs.Crowds.{AreKept}
use Rattle.fmp_search_lines.proofs.crowding.first_crowded.Given as goal

abbrev pub invariant-loop-line : goal.invariant-loop-line
invariant-loop-line l = record {
  room : length l.open.items ≤ 17;
  kept : AreKept (last_at l.lasts) l.line l.open.items;
}
