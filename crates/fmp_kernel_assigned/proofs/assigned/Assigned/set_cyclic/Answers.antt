use Rattle.std.proofs.Common.{◌≡◌, ℕ, List, refl, sym, ap, subst, ◌∙◌}
use Rattle.std.specs.Prelude.{slice_set}
use Rattle.fmp_rules.specs.declared.machine.Cyclic.{Cyclic}
use Rattle.fmp_rules.specs.World.{with_item}
use Rattle.fmp_time.specs.Times.{Times}
use Rattle.fmp_kernel_assigned.specs.Assignments.{Assignments, assignments_of}
use Rattle.fmp_kernel_assigned.specs.Counting.{AreInStep}
use Rattle.fmp_kernel_assigned.proofs.Changes.{cyclic_moved, cyclic_moved_step}
use Rattle.fmp_kernel_assigned.proofs.assigned.Assigned.set_cyclic.Goals as goal
use Rattle.fmp_kernel_assigned.proofs.assigned.Assigned.set_cyclic.Goals.{After-move_to}

handlers : (c : After-move_to) → c.put_cyclic.new.cyclics.items ≡ with_item c.self.inside.cyclics.items c.args.c.number c.args.changed
handlers c = c.put_cyclic.ensures ∙ ap (λ (i : ℕ). slice_set c.self.inside.cyclics.items i c.args.changed) c.index.ensures.value

pub invariant_of-self : goal.invariant_of-self
invariant_of-self c =
    subst (λ (xs : List Cyclic). AreInStep c.self.inside.tasks xs c.self.inside.alarms.items c.move_to.new.self.left) (sym (handlers c))
    (subst (λ (m : Times). AreInStep c.self.inside.tasks (with_item c.self.inside.cyclics.items c.args.c.number c.args.changed) c.self.inside.alarms.items m.left) (sym c.move_to.ensures)
    (cyclic_moved_step c.self.inside.timer c.self.inside.tasks c.self.inside.cyclics.items c.self.inside.alarms.items c.self.inside.timers c.self.invariant c.args.c c.args.changed.assigned c.args.changed refl))

pub returns : goal.returns
returns c =
    ap (λ (xs : List Cyclic). assignments_of c.self.inside.timer c.self.inside.tasks xs c.self.inside.alarms.items c.move_to.new.self) (handlers c)
    ∙ ap (assignments_of c.self.inside.timer c.self.inside.tasks (with_item c.self.inside.cyclics.items c.args.c.number c.args.changed) c.self.inside.alarms.items) c.move_to.ensures
    ∙ cyclic_moved c.self.inside.timer c.self.inside.tasks c.self.inside.cyclics.items c.self.inside.alarms.items c.self.inside.timers c.self.invariant c.args.c c.args.changed.assigned c.args.changed
    ∙ ap (λ (v : Assignments). record v { cyclics = with_item v.cyclics c.args.c.number c.args.changed }) c.self.view_is
