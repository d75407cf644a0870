use Rattle.std.specs.Prelude.{◌≡◌, ◌≤◌, length, take}
use Rattle.fmp_search_random.specs.Drawn.{awake}
use Rattle.fmp_search_random.proofs.drawing.awake.Given as goal

-- those of the first steps
abbrev pub invariant-loop-step : goal.invariant-loop-step
invariant-loop-step l = record {
  are : l.others.items ≡ awake l.stall (take l.step-index l.steps);
  few : length l.others.items ≤ l.step-index;
}
