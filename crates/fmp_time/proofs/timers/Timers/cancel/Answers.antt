use Rattle.std.proofs.Common.{◌≡◌, List, sym, ap, subst, ◌∙◌}
use Rattle.fmp_time.specs.Differences.{Entry, take_out}
use Rattle.fmp_time.specs.Left.{left_in}
use Rattle.fmp_time.specs.Times.{Times, place_of, cancelled, AreWaits}
use Rattle.fmp_time.specs.Shown.{times_of}
use Rattle.fmp_time.proofs.Tables.{length-table}
use Rattle.fmp_time.proofs.Effects.{cancelled_is}
use Rattle.fmp_time.proofs.Waits.{waits-cancelled}
use Rattle.fmp_time.proofs.timers.Timers.cancel.Goals as goal
use Rattle.fmp_time.proofs.timers.Timers.cancel.Goals.{After-end}

shown : (c : After-end) → times_of c.take_out.new.self c.end.new.waits ≡ cancelled (times_of c.self.inside.differences c.self.inside.waits) c.args.item
shown c =
    let q = c.self.inside.differences in
    ap (λ (r : List (List Entry)). times_of r c.end.new.waits) (c.take_out.ensures ∙ ap (take_out q) c.place.ensures.value)
    ∙ ap (times_of (take_out q (place_of c.args.item))) c.end.ensures ∙ cancelled_is q c.self.inside.waits c.args.item

pub invariant_of-self : goal.invariant_of-self
invariant_of-self c = subst AreWaits (sym (shown c))
    (waits-cancelled (times_of c.self.inside.differences c.self.inside.waits) c.args.item (length-table (left_in c.self.inside.differences)) c.self.invariant)

pub returns : goal.returns
returns c = shown c ∙ ap (λ (m : Times). cancelled m c.args.item) c.self.view_is
