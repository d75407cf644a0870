use Rattle.std.proofs.Common.{ℕ, ◌-◌, length, filter, ap, ◌∙◌}
use Rattle.std.specs.Prelude.{nat_lt}
use Rattle.fmp_codes.specs.declared.numbers.Task.{Task}
use Rattle.fmp_rules.specs.Tick.{tasks_expired}
use Rattle.fmp_kernel_assigned.specs.Assignments.{Assignments}
use Rattle.fmp_kernel_assigned.proofs.Among.{waits_over}
use Rattle.fmp_kernel_assigned.proofs.assigned.Assigned.expired_waits.Goals as goal

pub returns : goal.returns
returns c =
    c.tasks_among.ensures
    ∙ ap (λ (n : ℕ). filter (λ (t : Task). nat_lt (t.number - 1) n) c.as_slice.result.now) c.len.ensures.value
    ∙ ap (filter (λ (t : Task). nat_lt (t.number - 1) (length c.self.inside.tasks))) (c.as_slice.ensures.value ∙ c.due_waits.ensures)
    ∙ waits_over c.self.inside.timers (length c.self.inside.tasks)
    ∙ ap (λ (v : Assignments). tasks_expired v.waits_left v.timed) c.self.view_is
