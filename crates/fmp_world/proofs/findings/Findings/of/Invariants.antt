use Rattle.std.proofs.Common.{◌≡◌, ◌++◌, List, length}
use Rattle.fmp_codes.specs.declared.records.Record.{Record}
use Rattle.fmp_world.specs.Findings.{Finds}
use Rattle.fmp_world.proofs.findings.Findings.of.Given as goal

abbrev pub invariant-loop-report : goal.invariant-loop-report
invariant-loop-report l =
    (h : List Record) × (l.fn.replay ≡ h ++ l.replay) × Finds l.found l.seats.cpus.items l.seats.clock h × (l.number ≡ length h)

abbrev pub decreases-loop-report : goal.decreases-loop-report
decreases-loop-report l = length l.replay
