use Rattle.std.proofs.Common.{◌≡◌, ◌-◌, ◌≤◌, length, List, arith, sym, ap, subst, ◌∙◌}
use Rattle.fmp_rules.specs.declared.machine.TaskRecord.{TaskRecord}
use Rattle.fmp_rules.specs.World.{item, with_item, no_task}
use Rattle.fmp_time.specs.Times.{Times}
use Rattle.fmp_time.specs.declared.item.Item.TheVariants.{Wait}
use Rattle.fmp_kernel_assigned.specs.Assignments.{Assignments, assignments_of}
use Rattle.fmp_kernel_assigned.specs.Counting.{AreInStep, followed}
use Rattle.fmp_kernel_assigned.proofs.Changes.{noted, noted_step, noted_past}
use Rattle.fmp_kernel_assigned.proofs.assigned.Assigned.set_task.Goals as goal
use Rattle.fmp_kernel_assigned.proofs.assigned.Assigned.set_task.Goals.{After-set}

-- the timers follow the record
timers : (c : After-set) → c.follow.new.timers ≡ followed c.self.inside.timers (Wait c.args.t) (item no_task c.self.inside.tasks c.args.t.number).assigned c.args.changed.assigned
timers c = c.follow.ensures ∙ ap (λ (r : TaskRecord). followed c.self.inside.timers (Wait c.args.t) r.assigned c.args.changed.assigned) c.get.ensures

pub invariant_of-self : goal.invariant_of-self
invariant_of-self c =
    subst (λ (ts : List TaskRecord). AreInStep ts c.self.inside.cyclics.items c.self.inside.alarms.items c.follow.new.timers.left) (sym c.set.ensures)
    (subst (λ (m : Times). AreInStep (with_item c.self.inside.tasks c.args.t.number c.args.changed) c.self.inside.cyclics.items c.self.inside.alarms.items m.left) (sym (timers c))
    (noted_step c.self.inside.timer c.self.inside.tasks c.self.inside.cyclics.items c.self.inside.alarms.items c.self.inside.timers c.self.invariant c.args.t c.args.changed
    (omega (arith, c.if-index-len.true, c.index.ensures.value, c.len.ensures.value))))

pub returns-then-index-len : goal.returns-then-index-len
returns-then-index-len c =
    ap (λ (ts : List TaskRecord). assignments_of c.self.inside.timer ts c.self.inside.cyclics.items c.self.inside.alarms.items c.follow.new.timers) c.set.ensures
    ∙ ap (assignments_of c.self.inside.timer (with_item c.self.inside.tasks c.args.t.number c.args.changed) c.self.inside.cyclics.items c.self.inside.alarms.items) (timers c)
    ∙ noted c.self.inside.timer c.self.inside.tasks c.self.inside.cyclics.items c.self.inside.alarms.items c.self.inside.timers c.self.invariant c.args.t c.args.changed
    ∙ ap (λ (v : Assignments). record v { tasks = with_item v.tasks c.args.t.number c.args.changed }) c.self.view_is

pub returns-else-index-len : goal.returns-else-index-len
returns-else-index-len c =
    let past : length c.self.inside.tasks ≤ c.args.t.number - 1 = omega (arith, c.if-index-len.false, c.index.ensures.value, c.len.ensures.value) in
    sym c.self.view_is
    ∙ sym (ap (λ (ts : List TaskRecord). record (assignments_of c.self.inside.timer c.self.inside.tasks c.self.inside.cyclics.items c.self.inside.alarms.items c.self.inside.timers) { tasks = ts })
    (noted_past c.self.inside.timer c.self.inside.tasks c.self.inside.cyclics.items c.self.inside.alarms.items c.self.inside.timers c.self.invariant c.args.t c.args.changed past))
    ∙ ap (λ (v : Assignments). record v { tasks = with_item v.tasks c.args.t.number c.args.changed }) c.self.view_is
