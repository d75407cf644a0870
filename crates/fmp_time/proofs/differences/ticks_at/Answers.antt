use Rattle.std.proofs.Common.{◌≡◌, ◌+◌, Some, drop, take, sym, ◌∙◌, arith, rules}
use Rattle.std.specs.Prelude.{slice_index}
use Rattle.fmp_kernel_parts.specs.Lists as links
use Rattle.fmp_kernel_parts.proofs.Walking.{part, met}
use Rattle.fmp_time.proofs.Reading.{ticks_here, ticks_on, there_on, sum_on, there_end}
use Rattle.fmp_time.proofs.differences.ticks_at.Goals as goal

pub offset_bounds-more-next : goal.offset_bounds-more-next
offset_bounds-more-next c =
    let xs = links.list_at c.args.links.now c.args.list in
    let low = c.loop.invariant.disjoint.small c.args.list c.in-Some.next (met xs c.loop.counter c.in-Some.next (sym c.loop.invariant.here ∙ c.in-Some.is)) in
    omega (arith, low)

pub bounds-more-next : goal.bounds-more-next
bounds-more-next c =
    let xs = links.list_at c.args.links.now c.args.list in
    c.loop.invariant.disjoint.small c.args.list c.in-Some.next (met xs c.loop.counter c.in-Some.next (sym c.loop.invariant.here ∙ c.in-Some.is))

pub overflow_add-sum : goal.overflow_add-sum
overflow_add-sum c =
    let xs = links.list_at c.args.links.now c.args.list in
    let step = sum_on (slice_index c.args.more.now) xs c.loop.counter c.in-Some.next (sym c.loop.invariant.here ∙ c.in-Some.is) in
    omega (arith, step, c.loop.invariant.sum, c.requires.bound)

pub next-here-requires : goal.next-here-requires
next-here-requires c =
    let xs = links.list_at c.args.links.now c.args.list in
    (search rules, c.loop.invariant.disjoint.small c.args.list c.in-Some.next (met xs c.loop.counter c.in-Some.next (sym c.loop.invariant.here ∙ c.in-Some.is)))

pub returns-then-next-item : goal.returns-then-next-item
returns-then-next-item c =
    let xs = links.list_at c.args.links.now c.args.list in
    let e : links.first_of (drop c.loop.counter xs) ≡ Some c.in-Some.next = sym c.loop.invariant.here ∙ c.in-Some.is in
    sym c.loop.invariant.ticks ∙ ticks_here (slice_index c.args.more.now) c.loop.sum xs c.loop.counter c.in-Some.next c.args.item e c.if-next-item.true

pub returns-in-None : goal.returns-in-None
returns-in-None c =
    let xs = links.list_at c.args.links.now c.args.list in
    absurd (there_end xs c.loop.counter c.args.item (sym c.loop.invariant.here ∙ c.in-None.is) c.loop.invariant.there)

pub loop-preserved : goal.loop-preserved
loop-preserved c =
    let xs = links.list_at c.args.links.now c.args.list in
    let e : links.first_of (drop c.loop.counter xs) ≡ Some c.in-Some.next = sym c.loop.invariant.here ∙ c.in-Some.is in
    let step = sum_on (slice_index c.args.more.now) xs c.loop.counter c.in-Some.next e in
    record {
      ticks = sym (ticks_on (slice_index c.args.more.now) c.loop.sum xs c.loop.counter c.in-Some.next c.args.item e c.if-next-item.false) ∙ c.loop.invariant.ticks;
      sum = omega (arith, step, c.loop.invariant.sum);
      here = c.next-here.ensures.value c.args.list (take c.loop.counter xs) (drop (c.loop.counter + 1) xs) (part xs c.loop.counter c.in-Some.next e);
      there = there_on xs c.loop.counter c.in-Some.next c.args.item e c.if-next-item.false c.loop.invariant.there;
      few = c.loop.invariant.few;
      disjoint = c.loop.invariant.disjoint;
    }
