use Rattle.std.proofs.Common.{◌≡◌, ◌+◌, Some, None, drop, take, sym, ◌∙◌, arith, rules}
use Rattle.std.specs.Prelude.{slice_index}
use Rattle.fmp_kernel_parts.specs.Lists as links
use Rattle.fmp_kernel_parts.proofs.Walking.{part, met}
use Rattle.fmp_time.proofs.Spots.{adding_here, adding_on, adding_end}
use Rattle.fmp_time.proofs.differences.adding.Goals as goal

pub offset_bounds-more-item : goal.offset_bounds-more-item
offset_bounds-more-item c =
    let xs = links.list_at c.args.links.now c.args.list in
    let low = c.loop.invariant.disjoint.small c.args.list c.in-Some.item (met xs c.loop.counter c.in-Some.item (sym c.loop.invariant.here ∙ c.in-Some.is)) in
    omega (arith, low)

pub bounds-more-item : goal.bounds-more-item
bounds-more-item c =
    let xs = links.list_at c.args.links.now c.args.list in
    c.loop.invariant.disjoint.small c.args.list c.in-Some.item (met xs c.loop.counter c.in-Some.item (sym c.loop.invariant.here ∙ c.in-Some.is))

pub next-here-requires : goal.next-here-requires
next-here-requires c =
    let xs = links.list_at c.args.links.now c.args.list in
    (search rules, c.loop.invariant.disjoint.small c.args.list c.in-Some.item (met xs c.loop.counter c.in-Some.item (sym c.loop.invariant.here ∙ c.in-Some.is)))

pub returns-then-more-item-gt0 : goal.returns-then-more-item-gt0
returns-then-more-item-gt0 c =
    let xs = links.list_at c.args.links.now c.args.list in
    let e : links.first_of (drop c.loop.counter xs) ≡ Some c.in-Some.item = sym c.loop.invariant.here ∙ c.in-Some.is in
    record {
      value = sym (adding_here (slice_index c.args.more.now) xs c.loop.counter c.in-Some.item e c.if-more-item-gt0.true) ∙ c.loop.invariant.value;
      disjoint = c.loop.invariant.disjoint;
    }

pub returns-in-None : goal.returns-in-None
returns-in-None c =
    let xs = links.list_at c.args.links.now c.args.list in
    let e : links.first_of (drop c.loop.counter xs) ≡ None = sym c.loop.invariant.here ∙ c.in-None.is in
    record {
      value = sym (adding_end (slice_index c.args.more.now) xs c.loop.counter e) ∙ c.loop.invariant.value;
      disjoint = c.loop.invariant.disjoint;
    }

pub loop-preserved : goal.loop-preserved
loop-preserved c =
    let xs = links.list_at c.args.links.now c.args.list in
    let e : links.first_of (drop c.loop.counter xs) ≡ Some c.in-Some.item = sym c.loop.invariant.here ∙ c.in-Some.is in
    record {
      value = sym (adding_on (slice_index c.args.more.now) xs c.loop.counter c.in-Some.item e (omega (arith, c.if-more-item-gt0.false))) ∙ c.loop.invariant.value;
      here = c.next-here.ensures.value c.args.list (take c.loop.counter xs) (drop (c.loop.counter + 1) xs) (part xs c.loop.counter c.in-Some.item e);
      few = c.loop.invariant.few;
      disjoint = c.loop.invariant.disjoint;
    }
