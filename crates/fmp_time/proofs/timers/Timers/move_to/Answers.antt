use Rattle.std.proofs.Common.{◌≡◌, ℕ, List, length, sym, ap, subst, ◌∙◌}
use Rattle.std.specs.Prelude.{slice_set}
use Rattle.std.specs.Option.{option_map}
use Rattle.fmp_time.specs.Differences.{Entry, entries_at, has_entry, sorted_in, take_out}
use Rattle.fmp_time.specs.Left.{left_in, ticks_of}
use Rattle.fmp_time.specs.Times.{Times, left_of, moved_to, AreWaits}
use Rattle.fmp_time.specs.Shown.{times_of}
use Rattle.fmp_time.proofs.Leaving.{gone}
use Rattle.fmp_time.proofs.Tables.{length-table}
use Rattle.fmp_time.proofs.Effects.{put_on, left_of-times, moved_is, unmoved_is}
use Rattle.fmp_time.proofs.Waits.{waits-moved_to}
use Rattle.fmp_time.proofs.timers.Timers.move_to.Goals as goal
use Rattle.fmp_time.proofs.timers.Timers.move_to.Goals.{After-insert}

pub insert-requires-clause-nowhere : goal.insert-requires-clause-nowhere
insert-requires-clause-nowhere c = λ i.
    ap (λ (q : List (List Entry)). has_entry c.place-place.result (entries_at q i)) c.take_out.ensures ∙ gone c.self.inside.differences c.place-place.result i

shown : (c : After-insert) → times_of c.insert.new.self c.self.inside.waits ≡ moved_to (times_of c.self.inside.differences c.self.inside.waits) c.args.item c.args.processor
shown c =
    let q = c.self.inside.differences in
    let k = c.place-place.result in
    let n = c.in-Some.ticks in
    ap (λ (r : List (List Entry)). times_of r c.self.inside.waits)
    (c.insert.ensures.entries ∙ ap (λ (r : List (List Entry)). slice_set r c.index.result (sorted_in k n (entries_at r c.index.result))) c.take_out.ensures
    ∙ ap (λ (i : ℕ). slice_set (take_out q k) i (sorted_in k n (entries_at (take_out q k) i))) c.index.ensures.value ∙ ap (λ (j : ℕ). put_on q c.args.processor j n) c.place-place.ensures.value)
    ∙ moved_is q c.self.inside.waits c.args.processor c.args.item n (ap length (sym (c.take_out.ensures ∙ ap (take_out q) c.place-place.ensures.value)) ∙ c.insert.ensures.count)
    (c.in-Some.ensures ∙ ap (λ (j : ℕ). option_map ticks_of (left_in q j)) c.place-place.ensures.value)

pub invariant_of-self : goal.invariant_of-self
invariant_of-self c = subst AreWaits (sym (shown c))
    (waits-moved_to (times_of c.self.inside.differences c.self.inside.waits) c.args.item c.args.processor (length-table (left_in c.self.inside.differences)) c.self.invariant)

pub returns-in-Some : goal.returns-in-Some
returns-in-Some c = shown c ∙ ap (λ (m : Times). moved_to m c.args.item c.args.processor) c.self.view_is

pub returns-in_default : goal.returns-in_default
returns-in_default c =
    unmoved_is c.args.self.now c.args.processor c.args.item
    (c.in_default.ensures ∙ ap (λ (j : ℕ). option_map ticks_of (left_in c.self.inside.differences j)) c.place-place.ensures.value
    ∙ ap (option_map ticks_of) (sym (left_of-times c.self.inside.differences c.self.inside.waits c.args.item)) ∙ ap (λ (m : Times). option_map ticks_of (left_of m c.args.item)) c.self.view_is)
