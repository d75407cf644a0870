use Rattle.std.proofs.Common.{◌≡◌, ◌++◌, drop, length}
use Rattle.fmp_search_lines.specs.Lasts.{last_at}
use Rattle.fmp_search_lines.specs.Places.{lines_from, lines_of}
use Rattle.fmp_search_lines.proofs.searching.order_of.Given as goal

abbrev pub invariant-loop-step : goal.invariant-loop-step
invariant-loop-step l =
    l.order.items ++ lines_from (last_at l.lasts) (length l.lasts) l.taken.top l.taken.pending.items (drop l.step-index l.steps) ≡
    lines_of (last_at l.lasts) (length l.lasts) l.steps
