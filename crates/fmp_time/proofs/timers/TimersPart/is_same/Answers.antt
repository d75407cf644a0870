use Rattle.std.proofs.Common.{sym, ◌∙◌}
use Rattle.fmp_time.proofs.Showing.{shown_same, same_shown}
use Rattle.fmp_time.proofs.timers.TimersPart.is_same.Goals as goal

pub returns-then-is_same : goal.returns-then-is_same
returns-then-is_same c = (
  λ t.
      sym c.self.view_is
      ∙ shown_same c.self.inside.differences c.other.inside.differences c.self.inside.waits c.other.inside.waits (c.is_same.ensures.0 c.if-is_same.true)
      (c.has_same_lefts.ensures.0 t)
      ∙ c.other.view_is,
  λ e. c.has_same_lefts.ensures.1 (same_shown c.self.inside.differences c.other.inside.differences c.self.inside.waits c.other.inside.waits
      (c.self.view_is ∙ e ∙ sym c.other.view_is)),
)
