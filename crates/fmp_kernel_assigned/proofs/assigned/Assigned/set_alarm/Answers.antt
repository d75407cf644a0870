use Rattle.std.proofs.Common.{◌≡◌, ℕ, List, refl, sym, ap, subst, ◌∙◌}
use Rattle.std.specs.Prelude.{slice_set}
use Rattle.fmp_rules.specs.declared.machine.Alarm.{Alarm}
use Rattle.fmp_rules.specs.World.{with_item}
use Rattle.fmp_time.specs.Times.{Times}
use Rattle.fmp_kernel_assigned.specs.Assignments.{Assignments, assignments_of}
use Rattle.fmp_kernel_assigned.specs.Counting.{AreInStep}
use Rattle.fmp_kernel_assigned.proofs.Changes.{alarm_moved, alarm_moved_step}
use Rattle.fmp_kernel_assigned.proofs.assigned.Assigned.set_alarm.Goals as goal
use Rattle.fmp_kernel_assigned.proofs.assigned.Assigned.set_alarm.Goals.{After-move_to}

handlers : (c : After-move_to) → c.put_alarm.new.alarms.items ≡ with_item c.self.inside.alarms.items c.args.a.number c.args.changed
handlers c = c.put_alarm.ensures ∙ ap (λ (i : ℕ). slice_set c.self.inside.alarms.items i c.args.changed) c.index.ensures.value

pub invariant_of-self : goal.invariant_of-self
invariant_of-self c =
    subst (λ (xs : List Alarm). AreInStep c.self.inside.tasks c.self.inside.cyclics.items xs c.move_to.new.self.left) (sym (handlers c))
    (subst (λ (m : Times). AreInStep c.self.inside.tasks c.self.inside.cyclics.items (with_item c.self.inside.alarms.items c.args.a.number c.args.changed) m.left) (sym c.move_to.ensures)
    (alarm_moved_step c.self.inside.timer c.self.inside.tasks c.self.inside.cyclics.items c.self.inside.alarms.items c.self.inside.timers c.self.invariant c.args.a c.args.changed.assigned c.args.changed refl))

pub returns : goal.returns
returns c =
    ap (λ (xs : List Alarm). assignments_of c.self.inside.timer c.self.inside.tasks c.self.inside.cyclics.items xs c.move_to.new.self) (handlers c)
    ∙ ap (assignments_of c.self.inside.timer c.self.inside.tasks c.self.inside.cyclics.items (with_item c.self.inside.alarms.items c.args.a.number c.args.changed)) c.move_to.ensures
    ∙ alarm_moved c.self.inside.timer c.self.inside.tasks c.self.inside.cyclics.items c.self.inside.alarms.items c.self.inside.timers c.self.invariant c.args.a c.args.changed.assigned c.args.changed
    ∙ ap (λ (v : Assignments). record v { alarms = with_item v.alarms c.args.a.number c.args.changed }) c.self.view_is
