-- Groups of tasks, and how the tasks of one stand.
use Rattle.std.specs.Prelude.{ℕ, Bool, ◌&&◌, ◌==◌, None, List, length}
use Rattle.fmp_codes.specs.declared.numbers.Task.{Task}
use Rattle.fmp_setup.specs.declared.setup.Order.TheVariants as order
use Rattle.fmp_rules.specs.declared.machine.TaskRecord.{TaskRecord}
use Rattle.fmp_rules.specs.World.{item, no_task}
use Rattle.fmp_rules.specs.Ordering.{is_runnable, waits_in}
use Rattle.fmp_rules.specs.Tick.{is_over}
use Rattle.fmp_rules.specs.Arrivals.{State, in_order, comes_before, priority_in, rank_in}
use Rattle.fmp_plain_machine.specs.declared.groups.Group.{Group}
use Rattle.fmp_plain_machine.specs.declared.groups.Group.TheVariants as group
use Rattle.fmp_plain_machine.specs.declared.groups.Rule.{Rule}
use Rattle.fmp_plain_machine.specs.declared.groups.Rule.TheVariants as rule

-- whether a task of this record is of the group
abbrev pub takes : Group → TaskRecord → Bool
takes (group.ReadyAt p n) r = (is_runnable r && r.assigned.number == p.number) && r.priority.number == n.number
takes (group.Queue k x o) r = waits_in k x r.wait

-- what decides who of the group comes first
abbrev pub rule_of : Group → Rule
rule_of (group.ReadyAt p n) = rule.Ready
rule_of (group.Queue k x o) = rule.Waits o

-- the rank of a task, and the numbers that decide where ranks are equal
abbrev pub rank : State → Rule → Task → ℕ
rank w rule.Ready = priority_in w.tasks
rank w (rule.Waits o) = rank_in o w.tasks

abbrev pub numbers : State → Rule → List ℕ
numbers w rule.Ready = w.order.ready
numbers w (rule.Waits o) = w.order.begun

-- the one comes before the other
abbrev pub precedes : State → Rule → Task → Task → Bool
precedes w r = comes_before (rank w r) (numbers w r)

-- who is of the group
abbrev pub is_member : State → Group → Task → Bool
is_member w g t = takes g (item no_task w.tasks t.number)

-- the tasks of the group, in their order
abbrev pub members : State → Group → List Task
members w g = in_order (is_member w g) (precedes w (rule_of g)) (length w.tasks)

-- the tasks whose waits have no ticks left, in the order in which these began
abbrev pub waits_over : State → List Task
waits_over w = in_order (λ t. is_over (item None w.waits_left t.number)) (precedes w (rule.Waits order.First)) (length w.waits_left)
