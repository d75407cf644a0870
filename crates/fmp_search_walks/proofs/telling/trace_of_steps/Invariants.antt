use Rattle.std.proofs.Common.{◌≡◌, ◌++◌, ◌+◌, ◌<◌, length, drop, true}
use Rattle.std.specs.Prelude.{is_some}
use Rattle.fmp_search.specs.Runs.{run}
use Rattle.fmp_trace.specs.Lines.{lines_from}
use Rattle.fmp_search_orders.specs.Places.{after, origin, records}
use Rattle.fmp_search_walks.proofs.telling.trace_of_steps.Given as goal

abbrev pub invariant-loop-step : goal.invariant-loop-step
invariant-loop-step l = record {
  report : l.out.items ++ lines_from l.config.names (l.n + 1) (records l.walker.place (drop l.step-index l.steps)) ≡ lines_from l.config.names 1 (records (origin l.config l.scripts l.fn.rules l.question) l.steps);
  leads : is_some (run after l.walker.place (drop l.step-index l.steps)) ≡ true;
  count : l.n ≡ l.step-index;
  room : length (drop l.step-index l.steps) < l.walker.left;
}
