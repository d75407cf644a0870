use Rattle.std.proofs.Common.{ℕ, ◌-◌, length, filter, ap, ◌∙◌}
use Rattle.std.specs.Prelude.{nat_lt}
use Rattle.fmp_codes.specs.declared.numbers.Object.{Object}
use Rattle.fmp_rules.specs.Tick.{expired}
use Rattle.fmp_kernel_assigned.specs.Assignments.{Assignments}
use Rattle.fmp_kernel_assigned.proofs.Among.{objects_over}
use Rattle.fmp_kernel_assigned.proofs.assigned.Assigned.expired_cyclics.Goals as goal

pub returns : goal.returns
returns c =
    c.objects_among.ensures
    ∙ ap (λ (n : ℕ). filter (λ (o : Object). nat_lt (o.number - 1) n) c.as_slice.result.now) c.len.ensures.value
    ∙ ap (filter (λ (o : Object). nat_lt (o.number - 1) (length c.self.inside.cyclics.items))) (c.as_slice.ensures.value ∙ c.due_cyclics.ensures)
    ∙ objects_over c.self.inside.timers.left 96 c.self.inside.cyclics.items c.self.invariant.few_cyclics
    ∙ ap (λ (v : Assignments). expired v.cyclics_left v.cyclics) c.self.view_is
