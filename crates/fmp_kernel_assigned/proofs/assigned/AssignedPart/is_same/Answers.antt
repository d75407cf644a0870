use Rattle.std.proofs.Common.{◌≡◌, sym, ◌∙◌, rules}
use Rattle.fmp_kernel_assigned.proofs.Telling.{times_same}
use Rattle.fmp_kernel_assigned.proofs.assigned.AssignedPart.is_same.Goals as goal

pub returns-else-are_equal-2 : goal.returns-else-are_equal-2
returns-else-are_equal-2 c = (
  search rules,
  λ e.
      let a = c.self.inside in
      let b = c.other.inside in
      let timers : a.timers ≡ b.timers =
      times_same a.timer b.timer a.tasks b.tasks a.cyclics.items b.cyclics.items a.alarms.items b.alarms.items a.timers b.timers c.self.invariant c.other.invariant
      c.know_waits.ensures c.know_waits-2.ensures (c.self.view_is ∙ e ∙ sym c.other.view_is) in
      search rules,
)
