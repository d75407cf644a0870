use Rattle.std.proofs.Common.{◌-◌, ◌<◌, length, sym, ap, subst, ◌∙◌, arith}
use Rattle.fmp_time.specs.Times.{Times}
use Rattle.fmp_kernel_assigned.specs.Assignments.{Assignments, assignments_of, alarm_in}
use Rattle.fmp_kernel_assigned.specs.Counting.{AreInStep}
use Rattle.fmp_kernel_assigned.proofs.Changes.{alarm_begun, alarm_begun_step, alarm_past}
use Rattle.fmp_rules.specs.declared.machine.Alarm.{Alarm}
use Rattle.fmp_rules.specs.World.{with_item}
use Rattle.fmp_kernel_assigned.proofs.assigned.Assigned.set_alarm_left.Goals as goal
use Rattle.fmp_kernel_assigned.proofs.assigned.Assigned.set_alarm_left.Goals.{After-set_left}

here : (c : After-set_left) → c.args.a.number - 1 < length c.self.inside.alarms.items
here c = omega (arith, c.if-index-len.true, c.index.ensures.value, c.len.ensures.value)

pub invariant_of-self : goal.invariant_of-self
invariant_of-self c = subst (λ (m : Times). AreInStep c.self.inside.tasks c.self.inside.cyclics.items c.self.inside.alarms.items m.left) (sym c.set_left.ensures)
    (alarm_begun_step c.self.inside.timer c.self.inside.tasks c.self.inside.cyclics.items c.self.inside.alarms.items c.self.inside.timers c.self.invariant c.args.a c.alarm.result.assigned c.args.left (here c)
    (ap (λ (x : Alarm). x.assigned) c.alarm.ensures ∙ ap (λ (v : Assignments). (alarm_in v.alarms c.args.a).assigned) (sym c.self.view_is)))

pub returns-then-index-len : goal.returns-then-index-len
returns-then-index-len c =
    ap (assignments_of c.self.inside.timer c.self.inside.tasks c.self.inside.cyclics.items c.self.inside.alarms.items) c.set_left.ensures
    ∙ alarm_begun c.self.inside.timer c.self.inside.tasks c.self.inside.cyclics.items c.self.inside.alarms.items c.self.inside.timers c.self.invariant c.args.a c.alarm.result.assigned c.args.left
    ∙ ap (λ (v : Assignments). record v { alarms_left = with_item v.alarms_left c.args.a.number c.args.left }) c.self.view_is

pub returns-else-index-len : goal.returns-else-index-len
returns-else-index-len c =
    sym c.self.view_is ∙ alarm_past c.self.inside.timer c.self.inside.tasks c.self.inside.cyclics.items c.self.inside.alarms.items c.self.inside.timers c.self.invariant c.args.a c.args.left (omega (arith, c.if-index-len.false, c.index.ensures.value, c.len.ensures.value))
    ∙ ap (λ (v : Assignments). record v { alarms_left = with_item v.alarms_left c.args.a.number c.args.left }) c.self.view_is
