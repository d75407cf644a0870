use Rattle.std.proofs.Common.{◌≡◌, ℕ, List, sym, ap, subst, ◌∙◌}
use Rattle.std.specs.Prelude.{slice_set}
use Rattle.fmp_time.specs.Differences.{Entry, entries_at, lowered}
use Rattle.fmp_time.specs.Left.{left_in}
use Rattle.fmp_time.specs.Times as times
use Rattle.fmp_time.specs.Times.{Times, AreWaits}
use Rattle.fmp_time.specs.Shown.{times_of}
use Rattle.fmp_time.proofs.Tables.{length-table}
use Rattle.fmp_time.proofs.Effects.{lowered_is}
use Rattle.fmp_time.proofs.Waits.{waits-lowered}
use Rattle.fmp_time.proofs.timers.Timers.lower.Goals as goal
use Rattle.fmp_time.proofs.timers.Timers.lower.Goals.{After-lower}

shown : (c : After-lower) → times_of c.lower.new.self c.self.inside.waits ≡ times.lowered (times_of c.self.inside.differences c.self.inside.waits) c.args.processor
shown c =
    let q = c.self.inside.differences in
    ap (λ (r : List (List Entry)). times_of r c.self.inside.waits) (c.lower.ensures.entries ∙ ap (λ (i : ℕ). slice_set q i (lowered (entries_at q i))) c.index.ensures.value)
    ∙ lowered_is q c.self.inside.waits c.args.processor c.lower.ensures.disjoint

pub invariant_of-self : goal.invariant_of-self
invariant_of-self c = subst AreWaits (sym (shown c))
    (waits-lowered (times_of c.self.inside.differences c.self.inside.waits) c.args.processor (length-table (left_in c.self.inside.differences)) c.self.invariant)

pub returns : goal.returns
returns c = shown c ∙ ap (λ (m : Times). times.lowered m c.args.processor) c.self.view_is
