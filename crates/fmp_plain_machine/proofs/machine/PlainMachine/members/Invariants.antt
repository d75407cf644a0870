use Rattle.std.proofs.Common.{◌≡◌, ◌≤◌, length}
use Rattle.fmp_rules.specs.Arrivals.{in_order}
use Rattle.fmp_plain_machine.specs.Groups.{is_member, precedes, rule_of}
use Rattle.fmp_plain_machine.proofs.machine.PlainMachine.members.Given as goal

abbrev pub invariant-loop-index : goal.invariant-loop-index
invariant-loop-index l = record {
  few : length l.list.items ≤ l.index;
  made : l.list.items ≡ in_order (is_member l.self l.group) (precedes l.self (rule_of l.group)) l.index;
}
