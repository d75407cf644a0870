use Rattle.std.proofs.Common.{None, sym, ap, subst, ◌∙◌}
use Rattle.fmp_time.specs.Times.{Times}
use Rattle.fmp_kernel_assigned.specs.Assignments.{Assignments, assignments_of}
use Rattle.fmp_kernel_assigned.specs.Counting.{AreInStep}
use Rattle.fmp_kernel_assigned.proofs.Changes.{wait_set, wait_step}
use Rattle.fmp_kernel_parts.specs.Tasks.{without}
use Rattle.fmp_rules.specs.World.{with_item}
use Rattle.fmp_kernel_assigned.proofs.assigned.Assigned.end_wait.Goals as goal

pub invariant_of-self : goal.invariant_of-self
invariant_of-self c = subst (λ (m : Times). AreInStep c.self.inside.tasks c.self.inside.cyclics.items c.self.inside.alarms.items m.left) (sym c.cancel.ensures) (wait_step c.self.inside.timer c.self.inside.tasks c.self.inside.cyclics.items c.self.inside.alarms.items c.self.inside.timers c.self.invariant c.args.t None tt (λ past. tt))

pub returns : goal.returns
returns c =
    ap (assignments_of c.self.inside.timer c.self.inside.tasks c.self.inside.cyclics.items c.self.inside.alarms.items) c.cancel.ensures
    ∙ wait_set c.self.inside.timer c.self.inside.tasks c.self.inside.cyclics.items c.self.inside.alarms.items c.self.inside.timers c.self.invariant c.args.t None (without c.args.t c.self.inside.timers.waits)
    ∙ ap (λ (v : Assignments). record v { waits_left = with_item v.waits_left c.args.t.number None; timed = without c.args.t v.timed }) c.self.view_is
