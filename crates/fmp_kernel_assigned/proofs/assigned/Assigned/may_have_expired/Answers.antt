use Rattle.std.proofs.Common.{◌-◌, length, filter, sym, ap, ◌∙◌}
use Rattle.std.specs.Prelude.{nat_lt}
use Rattle.fmp_codes.specs.declared.numbers.Task.{Task}
use Rattle.fmp_codes.specs.declared.numbers.Object.{Object}
use Rattle.fmp_rules.specs.Tick.{expired, tasks_expired}
use Rattle.fmp_time.specs.Times.{all_objects, wait_of, alarm_of, cyclic_of}
use Rattle.fmp_time.proofs.Served.{filter_none}
use Rattle.fmp_kernel_assigned.specs.Assignments.{Assignments}
use Rattle.fmp_kernel_assigned.proofs.Among.{waits_over, objects_over}
use Rattle.fmp_kernel_assigned.proofs.assigned.Assigned.may_have_expired.Goals as goal

pub returns-clause-waits : goal.returns-clause-waits
returns-clause-waits c = λ h.
    let m = c.self.inside.timers in
    let n = length c.self.inside.tasks in
    ap (λ (v : Assignments). tasks_expired v.waits_left v.timed) (sym c.self.view_is) ∙ sym (waits_over m n)
    ∙ ap (filter (λ (t : Task). nat_lt (t.number - 1) n)) (filter_none _ m.waits (λ (t : Task). c.has_due.ensures.none h (wait_of t)))

pub returns-clause-alarms : goal.returns-clause-alarms
returns-clause-alarms c = λ h.
    let xs = c.self.inside.alarms.items in
    ap (λ (v : Assignments). expired v.alarms_left v.alarms) (sym c.self.view_is) ∙ sym (objects_over c.self.inside.timers.left 64 xs c.self.invariant.few_alarms)
    ∙ ap (filter (λ (o : Object). nat_lt (o.number - 1) (length xs))) (filter_none _ all_objects (λ (o : Object). c.has_due.ensures.none h (alarm_of o)))

pub returns-clause-cyclics : goal.returns-clause-cyclics
returns-clause-cyclics c = λ h.
    let xs = c.self.inside.cyclics.items in
    ap (λ (v : Assignments). expired v.cyclics_left v.cyclics) (sym c.self.view_is) ∙ sym (objects_over c.self.inside.timers.left 96 xs c.self.invariant.few_cyclics)
    ∙ ap (filter (λ (o : Object). nat_lt (o.number - 1) (length xs))) (filter_none _ all_objects (λ (o : Object). c.has_due.ensures.none h (cyclic_of o)))
