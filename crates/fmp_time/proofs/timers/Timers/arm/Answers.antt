use Rattle.std.proofs.Common.{◌≡◌, ℕ, List, length, sym, ap, subst, ◌∙◌}
use Rattle.std.specs.Prelude.{slice_set}
use Rattle.fmp_time.specs.Differences.{Entry, entries_at, has_entry, sorted_in, take_out}
use Rattle.fmp_time.specs.Left.{left_in}
use Rattle.fmp_time.specs.Times.{Times, place_of, armed, AreWaits}
use Rattle.fmp_time.specs.Shown.{times_of}
use Rattle.fmp_time.proofs.Leaving.{gone}
use Rattle.fmp_time.proofs.Tables.{length-table}
use Rattle.fmp_time.proofs.Effects.{put_on, armed_is}
use Rattle.fmp_time.proofs.Waits.{waits-armed}
use Rattle.fmp_time.proofs.timers.Timers.arm.Goals as goal
use Rattle.fmp_time.proofs.timers.Timers.arm.Goals.{After-begin}

pub insert-requires-clause-nowhere : goal.insert-requires-clause-nowhere
insert-requires-clause-nowhere c = λ i.
    ap (λ (q : List (List Entry)). has_entry c.place-place.result (entries_at q i)) c.take_out.ensures ∙ gone c.self.inside.differences c.place-place.result i

shown : (c : After-begin) → times_of c.insert.new.self c.begin.new.waits ≡ armed (times_of c.self.inside.differences c.self.inside.waits) c.args.processor c.args.item c.args.ticks
shown c =
    let q = c.self.inside.differences in
    let k = c.place-place.result in
    let n = c.args.ticks in
    ap (λ (r : List (List Entry)). times_of r c.begin.new.waits)
    (c.insert.ensures.entries ∙ ap (λ (r : List (List Entry)). slice_set r c.index.result (sorted_in k n (entries_at r c.index.result))) c.take_out.ensures
    ∙ ap (λ (i : ℕ). slice_set (take_out q k) i (sorted_in k n (entries_at (take_out q k) i))) c.index.ensures.value ∙ ap (λ (j : ℕ). put_on q c.args.processor j n) c.place-place.ensures.value)
    ∙ ap (times_of (put_on q c.args.processor (place_of c.args.item) n)) c.begin.ensures
    ∙ armed_is q c.self.inside.waits c.args.processor c.args.item n (ap length (sym (c.take_out.ensures ∙ ap (take_out q) c.place-place.ensures.value)) ∙ c.insert.ensures.count)

pub invariant_of-self : goal.invariant_of-self
invariant_of-self c = subst AreWaits (sym (shown c))
    (waits-armed (times_of c.self.inside.differences c.self.inside.waits) c.args.processor c.args.item c.args.ticks (length-table (left_in c.self.inside.differences)) c.self.invariant)

pub returns : goal.returns
returns c = shown c ∙ ap (λ (m : Times). armed m c.args.processor c.args.item c.args.ticks) c.self.view_is
