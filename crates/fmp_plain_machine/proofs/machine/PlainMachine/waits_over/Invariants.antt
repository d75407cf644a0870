use Rattle.std.proofs.Common.{◌≡◌, ◌≤◌, None, length}
use Rattle.fmp_setup.specs.declared.setup.Order.TheVariants as order
use Rattle.fmp_rules.specs.Arrivals.{in_order}
use Rattle.fmp_rules.specs.Tick.{is_over}
use Rattle.fmp_rules.specs.World.{item}
use Rattle.fmp_plain_machine.specs.Groups.{precedes}
use Rattle.fmp_plain_machine.specs.declared.groups.Rule.TheVariants as rule
use Rattle.fmp_plain_machine.proofs.machine.PlainMachine.waits_over.Given as goal

abbrev pub invariant-loop-index : goal.invariant-loop-index
invariant-loop-index l = record {
  few : length l.list.items ≤ l.index;
  made : l.list.items ≡ in_order (λ t. is_over (item None l.self.waits_left t.number)) (precedes l.self (rule.Waits order.First)) l.index;
}
