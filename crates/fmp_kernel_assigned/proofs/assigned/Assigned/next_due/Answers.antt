use Rattle.std.proofs.Common.{◌≡◌, ◌≤◌, true, length, sym, ap, subst, ◌∙◌}
use Rattle.fmp_codes.specs.declared.numbers.Task.{Task}
use Rattle.fmp_kernel_parts.specs.Tasks.{has_task}
use Rattle.fmp_setup.specs.declared.setup.Timer.{Timer}
use Rattle.fmp_rules.specs.Due.{IsLeast}
use Rattle.fmp_kernel_assigned.specs.Assignments.{Assignments, IsNextDue}
use Rattle.fmp_kernel_assigned.specs.Counting.{ticks_for, AreShown}
use Rattle.fmp_kernel_assigned.proofs.Least.{least_local, least_master, least_left, none_counts}
use Rattle.fmp_kernel_assigned.proofs.assigned.Assigned.next_due.Goals as goal

-- each task whose wait counts is one of the tasks
abbrev AreKnown : Assignments → Type 0
AreKnown a = (t : Task) → has_task t a.timed ≡ true → t.number ≤ length a.tasks

pub returns-in-Local : goal.returns-in-Local
returns-in-Local c =
    subst (λ (a : Assignments). IsNextDue a c.args.p c.next.result) c.self.view_is
    (least_left c.self.inside.timer c.args.p c.self.inside.tasks c.self.inside.cyclics.items c.self.inside.alarms.items c.self.inside.timers c.self.invariant c.next.ensures.waits
    (subst AreKnown (sym c.self.view_is) c.requires) c.next.result
    (subst (λ (t : Timer). IsLeast (AreShown (ticks_for t c.args.p) c.self.inside.timers) c.next.result) (sym c.in-Local.is) (least_local c.self.inside.timers c.args.p c.next.result c.next.ensures.least)))

pub returns-then-p-master : goal.returns-then-p-master
returns-then-p-master c =
    subst (λ (a : Assignments). IsNextDue a c.args.p c.least.result) c.self.view_is
    (least_left c.self.inside.timer c.args.p c.self.inside.tasks c.self.inside.cyclics.items c.self.inside.alarms.items c.self.inside.timers c.self.invariant c.least.ensures.waits
    (subst AreKnown (sym c.self.view_is) c.requires) c.least.result
    (subst (λ (t : Timer). IsLeast (AreShown (ticks_for t c.args.p) c.self.inside.timers) c.least.result) (sym c.in-Global.is)
    (least_master c.in-Global.master c.args.p c.if-p-master.true c.self.inside.timers c.least.result c.least.ensures.least)))

pub returns-else-p-master : goal.returns-else-p-master
returns-else-p-master c = none_counts c.in-Global.master c.args.p c.if-p-master.false c.args.self.now (ap (λ (a : Assignments). a.timer) (sym c.self.view_is) ∙ c.in-Global.is)
