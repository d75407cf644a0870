use Rattle.std.proofs.Common.{ℕ, sym, ap, ◌∙◌}
use Rattle.fmp_time.specs.Left.{is_over, left_in}
use Rattle.fmp_time.specs.Times.{Times, item_at, left_of, place_of}
use Rattle.fmp_time.proofs.Effects.{place-item_at, left_of-times}
use Rattle.fmp_time.proofs.timers.Timers.has_due.Goals as goal

pub returns-clause-some : goal.returns-clause-some
returns-clause-some c = λ h.
    let q = c.self.inside.differences in
    let due = c.has_due.ensures.some h in
    let x = item_at due.0 in (
      x,
      ap (λ (m : Times). is_over (left_of m x)) (sym c.self.view_is) ∙ ap is_over (left_of-times q c.self.inside.waits x)
          ∙ ap (λ (k : ℕ). is_over (left_in c.self.inside.differences k)) (place-item_at due.0 due.1) ∙ due.2,
    )

pub returns-clause-none : goal.returns-clause-none
returns-clause-none c = λ h x.
    ap (λ (m : Times). is_over (left_of m x)) (sym c.self.view_is) ∙ ap is_over (left_of-times c.self.inside.differences c.self.inside.waits x) ∙ c.has_due.ensures.none h (place_of x)
