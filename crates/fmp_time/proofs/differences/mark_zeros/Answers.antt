use Rattle.std.proofs.Common.{◌≡◌, ◌+◌, Some, None, drop, take, false, get_or, sym, ◌∙◌, arith, rules}
use Rattle.std.specs.Prelude.{slice_index}
use Rattle.fmp_kernel_parts.specs.Lists as links
use Rattle.fmp_kernel_parts.proofs.Walking.{part, met}
use Rattle.fmp_time.proofs.Spots.{zeros_none, mark_one, no_more}
use Rattle.fmp_time.proofs.differences.mark_zeros.Goals as goal

pub offset_bounds-more-item : goal.offset_bounds-more-item
offset_bounds-more-item c =
    let xs = links.list_at c.args.links.now c.args.list in
    let low = c.loop.invariant.disjoint.small c.args.list c.in-Some.item (met xs c.loop.counter c.in-Some.item (sym c.loop.invariant.here ∙ c.in-Some.is)) in
    omega (arith, low)

pub bounds-more-item : goal.bounds-more-item
bounds-more-item c =
    let xs = links.list_at c.args.links.now c.args.list in
    c.loop.invariant.disjoint.small c.args.list c.in-Some.item (met xs c.loop.counter c.in-Some.item (sym c.loop.invariant.here ∙ c.in-Some.is))

pub bounds-marks-item : goal.bounds-marks-item
bounds-marks-item c =
    let xs = links.list_at c.args.links.now c.args.list in
    c.loop.invariant.disjoint.small c.args.list c.in-Some.item (met xs c.loop.counter c.in-Some.item (sym c.loop.invariant.here ∙ c.in-Some.is))

pub next-here-requires : goal.next-here-requires
next-here-requires c =
    let xs = links.list_at c.args.links.now c.args.list in
    (search rules, c.loop.invariant.disjoint.small c.args.list c.in-Some.item (met xs c.loop.counter c.in-Some.item (sym c.loop.invariant.here ∙ c.in-Some.is)))

pub returns-then-more-item-gt0-clause-marks : goal.returns-then-more-item-gt0-clause-marks
returns-then-more-item-gt0-clause-marks c = λ k h.
    let xs = links.list_at c.args.links.now c.args.list in
    let e : links.first_of (drop c.loop.counter xs) ≡ Some c.in-Some.item = sym c.loop.invariant.here ∙ c.in-Some.is in
    no_more (slice_index c.args.more.now) xs c.loop.counter c.in-Some.item k (get_or c.loop.marks k false) e c.if-more-item-gt0.true ∙ c.loop.invariant.marks k h

pub returns-in-None-clause-marks : goal.returns-in-None-clause-marks
returns-in-None-clause-marks c = λ k h.
    let xs = links.list_at c.args.links.now c.args.list in
    let e : links.first_of (drop c.loop.counter xs) ≡ None = sym c.loop.invariant.here ∙ c.in-None.is in
    zeros_none (slice_index c.args.more.now) xs c.loop.counter k (get_or c.loop.marks k false) e ∙ c.loop.invariant.marks k h

pub loop-preserved : goal.loop-preserved
loop-preserved c =
    let xs = links.list_at c.args.links.now c.args.list in
    let d = slice_index c.args.more.now in
    let e : links.first_of (drop c.loop.counter xs) ≡ Some c.in-Some.item = sym c.loop.invariant.here ∙ c.in-Some.is in
    record {
      marks = λ k h. mark_one d xs c.loop.counter c.in-Some.item k c.loop.marks c.loop.invariant.count h e (omega (arith, c.if-more-item-gt0.false)) ∙ c.loop.invariant.marks k h;
      count = search rules;
      here = c.next-here.ensures.value c.args.list (take c.loop.counter xs) (drop (c.loop.counter + 1) xs) (part xs c.loop.counter c.in-Some.item e);
      few = c.loop.invariant.few;
      disjoint = c.loop.invariant.disjoint;
    }
