use Rattle.std.specs.Prelude.{◌≤◌}
use Rattle.fmp_search_random.proofs.Following.{IsSoFar}
use Rattle.fmp_search_random.proofs.drawing.draw_order.Given as goal

-- what was drawn so far
abbrev pub invariant-loop-event : goal.invariant-loop-event
invariant-loop-event l = record {
  so_far : IsSoFar l.fn.drawing l.fn.seed l.fn.config l.fn.scripts l.fn.limits.ticks.count l.fn.limits.turns.count l.events.items l.left l.draws l.walker.place;
  room : l.left ≤ l.walker.left;
}

abbrev pub decreases-loop-event : goal.decreases-loop-event
decreases-loop-event l = l.left
