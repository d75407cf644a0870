use Rattle.std.proofs.Common.{sym, ap, subst, ◌∙◌}
use Rattle.fmp_time.specs.Times.{Times}
use Rattle.fmp_kernel_assigned.specs.Assignments.{Assignments, assignments_of}
use Rattle.fmp_kernel_assigned.specs.Counting.{AreInStep}
use Rattle.fmp_setup.specs.Setup.{counts_for}
use Rattle.fmp_rules.specs.Tick.{lowered}
use Rattle.fmp_kernel_assigned.proofs.Falling.{fallen_is, fallen_step}
use Rattle.fmp_kernel_assigned.proofs.assigned.Assigned.count_down.Goals as goal

pub invariant_of-self : goal.invariant_of-self
invariant_of-self c = subst (λ (m : Times). AreInStep c.self.inside.tasks c.self.inside.cyclics.items c.self.inside.alarms.items m.left) (sym c.count_down.ensures)
    (fallen_step c.self.inside.timer c.self.inside.tasks c.self.inside.cyclics.items c.self.inside.alarms.items c.self.inside.timers c.self.invariant c.args.p)

pub returns : goal.returns
returns c =
    ap (assignments_of c.self.inside.timer c.self.inside.tasks c.self.inside.cyclics.items c.self.inside.alarms.items) c.count_down.ensures
    ∙ fallen_is c.self.inside.timer c.self.inside.tasks c.self.inside.cyclics.items c.self.inside.alarms.items c.self.inside.timers c.self.invariant c.args.p
    ∙ ap (λ (v : Assignments). record v { waits_left = lowered (λ r. counts_for v.timer c.args.p r.assigned) v.tasks v.waits_left; cyclics_left = lowered (λ x. counts_for v.timer c.args.p x.assigned) v.cyclics v.cyclics_left; alarms_left = lowered (λ x. counts_for v.timer c.args.p x.assigned) v.alarms v.alarms_left }) c.self.view_is
