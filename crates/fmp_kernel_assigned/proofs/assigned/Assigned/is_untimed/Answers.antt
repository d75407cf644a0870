use Rattle.std.proofs.Common.{◌≡◌, ◌≤◌, ◌&&◌, true, length, sym, ap, subst, ◌∙◌}
use Rattle.std.specs.Prelude.{is_none}
use Rattle.std.specs.List.{list_all}
use Rattle.fmp_codes.specs.declared.numbers.Task.{Task}
use Rattle.fmp_kernel_parts.specs.Tasks.{has_task}
use Rattle.fmp_kernel_assigned.specs.Assignments.{Assignments}
use Rattle.fmp_kernel_assigned.proofs.Untimed.{none_is, untimed}
use Rattle.fmp_kernel_assigned.proofs.assigned.Assigned.is_untimed.Goals as goal

-- each task whose wait counts is one of the tasks
abbrev AreKnown : Assignments → Type 0
AreKnown a = (t : Task) → has_task t a.timed ≡ true → t.number ≤ length a.tasks

pub returns : goal.returns
returns c =
    let self = c.self.inside in
    none_is c.least.result c.is_none.result c.is_none.ensures
    ∙ untimed self.tasks self.cyclics.items self.alarms.items self.timers c.self.invariant c.least.ensures.waits (subst AreKnown (sym c.self.view_is) c.requires) c.least.result c.least.ensures.least
    ∙ ap (λ (a : Assignments). list_all is_none a.waits_left && list_all is_none a.cyclics_left && list_all is_none a.alarms_left) c.self.view_is
