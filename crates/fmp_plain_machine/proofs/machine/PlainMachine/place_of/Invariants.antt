use Rattle.std.proofs.Common.{◌≡◌, ◌++◌, take, drop}
use Rattle.fmp_rules.specs.Arrivals.{inserted}
use Rattle.fmp_plain_machine.specs.Groups.{precedes}
use Rattle.fmp_plain_machine.proofs.machine.PlainMachine.place_of.Given as goal

-- the task comes before none of those that were passed
abbrev pub invariant-loop-index : goal.invariant-loop-index
invariant-loop-index l =
    take l.index l.list ++ inserted (precedes l.self l.rule) l.t (drop l.index l.list) ≡ inserted (precedes l.self l.rule) l.t l.list
