use Rattle.std.specs.Prelude.{◌≡◌, ◌≤◌, length}
use Rattle.fmp_search_random.specs.Drawn.{choices_of}
use Rattle.fmp_search_random.proofs.drawing.choices.Given as goal

-- those of the first steps
abbrev pub invariant-loop-at : goal.invariant-loop-at
invariant-loop-at l = record {
  are : l.steps.items ≡ choices_of l.walker.place l.at;
  few : length l.steps.items ≤ l.at;
}
