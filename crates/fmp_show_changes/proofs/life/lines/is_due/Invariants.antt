use Rattle.std.proofs.Common.{◌≡◌}
use Rattle.std.specs.List.{list_any}
use Rattle.fmp_rules.specs.World.{processors_to}
use Rattle.fmp_show_changes.specs.Life.Lines.{is_due_on}
use Rattle.fmp_show_changes.proofs.life.lines.is_due.Given as goal

-- it is due on one of the processors so far
abbrev pub invariant-loop-index : goal.invariant-loop-index
invariant-loop-index g l = let W = g.M.Words in l.due ≡ list_any (is_due_on (W.world l.machine) l.handler) (processors_to l.index)
