use Rattle.std.proofs.Common.{◌≡◌, ℕ, ◌<◌, false, None, List, ◌++◌, sym, ap, subst, ◌∙◌}
use Rattle.std.specs.Prelude.{slice_index_or, slice_set}
use Rattle.fmp_kernel_parts.specs.Lists.{has}
use Rattle.fmp_time.specs.declared.item.Item.{Item}
use Rattle.fmp_time.specs.Differences.{entries_at, lowered, due, not_due, items_of}
use Rattle.fmp_time.specs.Left.{left_in}
use Rattle.fmp_time.specs.Times.{Times, is_due, marked_handlers, ticked, served, AreWaits}
use Rattle.fmp_time.specs.Shown.{times_of}
use Rattle.fmp_time.proofs.Tables.{length-table}
use Rattle.fmp_time.proofs.Waits.{waits-ticked}
use Rattle.fmp_time.proofs.Served.{waits_kept, served_is, none_served, all_kept, due_where, ticked_is}
use Rattle.fmp_time.proofs.timers.Timers.tick.Goals as goal
use Rattle.fmp_time.proofs.timers.Timers.tick.Goals.{After-serve_handlers, After-new}

-- the marks are of the items that are due
marks : (c : After-serve_handlers) → (k : ℕ) → k < 128 →
    slice_index_or c.marks_of-marks.result k false ≡ is_due c.args.processor (slice_index_or (times_of c.self.inside.differences c.self.inside.waits).left k None)
marks c k h =
    let q = c.self.inside.differences in
    c.marks_of-marks.ensures k h ∙ ap (has k) (c.as_slice.ensures.value ∙ c.in-Some.ensures.due ∙ ap (λ (i : ℕ). items_of (due (lowered (entries_at q i)))) c.index.ensures.value)
    ∙ sym (due_where q c.self.inside.waits c.args.processor c.tick.ensures.disjoint k h)

shown : (c : After-serve_handlers) → times_of c.tick.new.self c.serve_waits-items.new.waits ≡ ticked (times_of c.self.inside.differences c.self.inside.waits) c.args.processor
shown c =
    let q = c.self.inside.differences in
    ticked_is q c.tick.new.self c.self.inside.waits c.serve_waits-items.new.waits c.args.processor c.tick.ensures.disjoint
    (c.tick.ensures.entries ∙ ap (λ (i : ℕ). slice_set q i (not_due (lowered (entries_at q i)))) c.index.ensures.value)
    (c.serve_waits-items.ensures.waits ∙ waits_kept (times_of q c.self.inside.waits) c.args.processor c.marks_of-marks.result (marks c))

pub invariant_of-self : goal.invariant_of-self
invariant_of-self c = subst AreWaits (sym (shown c))
    (waits-ticked (times_of c.self.inside.differences c.self.inside.waits) c.args.processor (length-table (left_in c.self.inside.differences)) c.self.invariant)

pub returns-in-Some-clause-times : goal.returns-in-Some-clause-times
returns-in-Some-clause-times c = shown c ∙ ap (λ (m : Times). ticked m c.args.processor) c.self.view_is

pub returns-in-Some-clause-items : goal.returns-in-Some-clause-items
returns-in-Some-clause-items c =
    c.serve_handlers.ensures ∙ ap (λ (xs : List Item). xs ++ marked_handlers c.marks_of-marks.result) c.serve_waits-items.ensures.items
    ∙ served_is (times_of c.self.inside.differences c.self.inside.waits) c.args.processor c.marks_of-marks.result (marks c)
    ∙ ap (λ (m : Times). served m c.args.processor) c.self.view_is

-- nothing is due
quiet : (c : After-new) → (k : ℕ) → k < 128 → is_due c.args.processor (slice_index_or (times_of c.self.inside.differences c.self.inside.waits).left k None) ≡ false
quiet c k h =
    let q = c.self.inside.differences in
    due_where q c.self.inside.waits c.args.processor c.tick.ensures.disjoint k h
    ∙ ap (has k) (sym (c.in-None.ensures.due ∙ ap (λ (i : ℕ). items_of (due (lowered (entries_at q i)))) c.index.ensures.value))

still : (c : After-new) → times_of c.tick.new.self c.self.inside.waits ≡ ticked (times_of c.self.inside.differences c.self.inside.waits) c.args.processor
still c =
    let q = c.self.inside.differences in
    ticked_is q c.tick.new.self c.self.inside.waits c.self.inside.waits c.args.processor c.tick.ensures.disjoint
    (c.tick.ensures.entries ∙ ap (λ (i : ℕ). slice_set q i (not_due (lowered (entries_at q i)))) c.index.ensures.value)
    (sym (all_kept (times_of q c.self.inside.waits) c.args.processor (quiet c)))

pub invariant_of-self-in-None : goal.invariant_of-self-in-None
invariant_of-self-in-None c = subst AreWaits (sym (still c))
    (waits-ticked (times_of c.self.inside.differences c.self.inside.waits) c.args.processor (length-table (left_in c.self.inside.differences)) c.self.invariant)

pub returns-in-None-clause-times : goal.returns-in-None-clause-times
returns-in-None-clause-times c = still c ∙ ap (λ (m : Times). ticked m c.args.processor) c.self.view_is

pub returns-in-None-clause-items : goal.returns-in-None-clause-items
returns-in-None-clause-items c =
    c.new.ensures ∙ sym (none_served (times_of c.self.inside.differences c.self.inside.waits) c.args.processor (quiet c)) ∙ ap (λ (m : Times). served m c.args.processor) c.self.view_is
