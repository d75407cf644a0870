use Rattle.std.proofs.Common.{◌-◌, ◌<◌, length, sym, ap, subst, ◌∙◌, arith}
use Rattle.fmp_time.specs.Times.{Times}
use Rattle.fmp_kernel_assigned.specs.Assignments.{Assignments, assignments_of, cyclic_in}
use Rattle.fmp_kernel_assigned.specs.Counting.{AreInStep}
use Rattle.fmp_kernel_assigned.proofs.Changes.{cyclic_begun, cyclic_begun_step, cyclic_past}
use Rattle.fmp_rules.specs.declared.machine.Cyclic.{Cyclic}
use Rattle.fmp_rules.specs.World.{with_item}
use Rattle.fmp_kernel_assigned.proofs.assigned.Assigned.set_cyclic_left.Goals as goal
use Rattle.fmp_kernel_assigned.proofs.assigned.Assigned.set_cyclic_left.Goals.{After-set_left}

here : (c : After-set_left) → c.args.c.number - 1 < length c.self.inside.cyclics.items
here c = omega (arith, c.if-index-len.true, c.index.ensures.value, c.len.ensures.value)

pub invariant_of-self : goal.invariant_of-self
invariant_of-self c = subst (λ (m : Times). AreInStep c.self.inside.tasks c.self.inside.cyclics.items c.self.inside.alarms.items m.left) (sym c.set_left.ensures)
    (cyclic_begun_step c.self.inside.timer c.self.inside.tasks c.self.inside.cyclics.items c.self.inside.alarms.items c.self.inside.timers c.self.invariant c.args.c c.cyclic.result.assigned c.args.left (here c)
    (ap (λ (x : Cyclic). x.assigned) c.cyclic.ensures ∙ ap (λ (v : Assignments). (cyclic_in v.cyclics c.args.c).assigned) (sym c.self.view_is)))

pub returns-then-index-len : goal.returns-then-index-len
returns-then-index-len c =
    ap (assignments_of c.self.inside.timer c.self.inside.tasks c.self.inside.cyclics.items c.self.inside.alarms.items) c.set_left.ensures
    ∙ cyclic_begun c.self.inside.timer c.self.inside.tasks c.self.inside.cyclics.items c.self.inside.alarms.items c.self.inside.timers c.self.invariant c.args.c c.cyclic.result.assigned c.args.left
    ∙ ap (λ (v : Assignments). record v { cyclics_left = with_item v.cyclics_left c.args.c.number c.args.left }) c.self.view_is

pub returns-else-index-len : goal.returns-else-index-len
returns-else-index-len c =
    sym c.self.view_is ∙ cyclic_past c.self.inside.timer c.self.inside.tasks c.self.inside.cyclics.items c.self.inside.alarms.items c.self.inside.timers c.self.invariant c.args.c c.args.left (omega (arith, c.if-index-len.false, c.index.ensures.value, c.len.ensures.value))
    ∙ ap (λ (v : Assignments). record v { cyclics_left = with_item v.cyclics_left c.args.c.number c.args.left }) c.self.view_is
