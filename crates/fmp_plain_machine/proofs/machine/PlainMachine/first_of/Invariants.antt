use Rattle.std.proofs.Common.{◌≡◌}
use Rattle.fmp_rules.specs.World.{first}
use Rattle.fmp_rules.specs.Arrivals.{in_order}
use Rattle.fmp_plain_machine.specs.Groups.{is_member, precedes, rule_of}
use Rattle.fmp_plain_machine.proofs.machine.PlainMachine.first_of.Given as goal

abbrev pub invariant-loop-index : goal.invariant-loop-index
invariant-loop-index l = l.best ≡ first (in_order (is_member l.self l.group) (precedes l.self (rule_of l.group)) l.index)
