use Rattle.std.proofs.Common.{◌↔◌, List, IsTrue}
use Rattle.fmp_codes.specs.declared.records.Record.{Record}
use Rattle.fmp_world.specs.Ends.{TicksWithin, TicksAre}
use Rattle.fmp_world.specs.Findings.{AreTaken}
use Rattle.fmp_world.proofs.finishing.all_taken.Given as goal

abbrev pub invariant-loop-at : goal.invariant-loop-at
invariant-loop-at l =
    (h : List Record) → AreTaken l.counts h → TicksWithin l.at l.ticks h × (IsTrue l.all ↔ TicksAre l.timer l.at l.ticks h)
