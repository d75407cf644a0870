use Rattle.std.proofs.Common.{ℕ, ap, sym, ◌∙◌}
use Rattle.std.specs.Option.{option_map}
use Rattle.fmp_time.specs.Left.{left_in, ticks_of}
use Rattle.fmp_time.specs.Times.{Times, left_of}
use Rattle.fmp_time.proofs.Effects.{left_of-times}
use Rattle.fmp_time.proofs.timers.Timers.left.Goals as goal

pub returns : goal.returns
returns c =
    c.left.ensures ∙ ap (λ (j : ℕ). option_map ticks_of (left_in c.self.inside.differences j)) c.place.ensures.value
    ∙ ap (option_map ticks_of) (sym (left_of-times c.self.inside.differences c.self.inside.waits c.args.item)) ∙ ap (λ (m : Times). option_map ticks_of (left_of m c.args.item)) c.self.view_is
