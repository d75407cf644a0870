use Rattle.std.proofs.Common.{◌≡◌}
use Rattle.fmp_cli_notes.specs.Left.{fewer}
use Rattle.fmp_cli_notes.proofs.left.fewest.Given as goal

-- those so far
abbrev pub invariant-loop-thing : goal.invariant-loop-thing
invariant-loop-thing l = l.things.items ≡ fewer l.left l.thing
