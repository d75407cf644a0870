use Rattle.std.proofs.Common.{◌≡◌, ◌+◌, Some, None, drop, take, sym, ◌∙◌, arith, rules}
use Rattle.std.specs.Prelude.{slice_index}
use Rattle.fmp_kernel_parts.specs.Lists as links
use Rattle.fmp_kernel_parts.proofs.Walking.{part, met}
use Rattle.fmp_time.proofs.Spots.{spot_here, rest_here, spot_on, rest_on, spot_end, rest_end}
use Rattle.fmp_time.proofs.differences.spot.Goals as goal

pub offset_bounds-more-item : goal.offset_bounds-more-item
offset_bounds-more-item c =
    let xs = links.list_at c.args.links.now c.args.list in
    let low = c.loop.invariant.disjoint.small c.args.list c.in-Some.item (met xs c.loop.counter c.in-Some.item (sym c.loop.invariant.here ∙ c.in-Some.is)) in
    omega (arith, low)

pub bounds-more-item : goal.bounds-more-item
bounds-more-item c =
    let xs = links.list_at c.args.links.now c.args.list in
    c.loop.invariant.disjoint.small c.args.list c.in-Some.item (met xs c.loop.counter c.in-Some.item (sym c.loop.invariant.here ∙ c.in-Some.is))

pub offset_bounds-more-item-in-Some : goal.offset_bounds-more-item-in-Some
offset_bounds-more-item-in-Some c =
    let xs = links.list_at c.args.links.now c.args.list in
    let low = c.loop.invariant.disjoint.small c.args.list c.in-Some.item (met xs c.loop.counter c.in-Some.item (sym c.loop.invariant.here ∙ c.in-Some.is)) in
    omega (arith, low)

pub bounds-more-item-in-Some : goal.bounds-more-item-in-Some
bounds-more-item-in-Some c =
    let xs = links.list_at c.args.links.now c.args.list in
    c.loop.invariant.disjoint.small c.args.list c.in-Some.item (met xs c.loop.counter c.in-Some.item (sym c.loop.invariant.here ∙ c.in-Some.is))

pub next-here-requires : goal.next-here-requires
next-here-requires c =
    let xs = links.list_at c.args.links.now c.args.list in
    (search rules, c.loop.invariant.disjoint.small c.args.list c.in-Some.item (met xs c.loop.counter c.in-Some.item (sym c.loop.invariant.here ∙ c.in-Some.is)))

pub returns-then-rest-more : goal.returns-then-rest-more
returns-then-rest-more c =
    let xs = links.list_at c.args.links.now c.args.list in
    let e : links.first_of (drop c.loop.counter xs) ≡ Some c.in-Some.item = sym c.loop.invariant.here ∙ c.in-Some.is in
    record {
      item = sym (spot_here (slice_index c.args.more.now) c.loop.rest xs c.loop.counter c.in-Some.item e c.if-rest-more.true) ∙ c.loop.invariant.item;
      rest = sym (rest_here (slice_index c.args.more.now) c.loop.rest xs c.loop.counter c.in-Some.item e c.if-rest-more.true) ∙ c.loop.invariant.rest;
      disjoint = c.loop.invariant.disjoint;
    }

pub returns-in-None : goal.returns-in-None
returns-in-None c =
    let xs = links.list_at c.args.links.now c.args.list in
    let e : links.first_of (drop c.loop.counter xs) ≡ None = sym c.loop.invariant.here ∙ c.in-None.is in
    record {
      item = sym (spot_end (slice_index c.args.more.now) c.loop.rest xs c.loop.counter e) ∙ c.loop.invariant.item;
      rest = sym (rest_end (slice_index c.args.more.now) c.loop.rest xs c.loop.counter e) ∙ c.loop.invariant.rest;
      disjoint = c.loop.invariant.disjoint;
    }

pub loop-preserved : goal.loop-preserved
loop-preserved c =
    let xs = links.list_at c.args.links.now c.args.list in
    let e : links.first_of (drop c.loop.counter xs) ≡ Some c.in-Some.item = sym c.loop.invariant.here ∙ c.in-Some.is in
    record {
      item = sym (spot_on (slice_index c.args.more.now) c.loop.rest xs c.loop.counter c.in-Some.item e c.if-rest-more.false) ∙ c.loop.invariant.item;
      rest = sym (rest_on (slice_index c.args.more.now) c.loop.rest xs c.loop.counter c.in-Some.item e c.if-rest-more.false) ∙ c.loop.invariant.rest;
      here = c.next-here.ensures.value c.args.list (take c.loop.counter xs) (drop (c.loop.counter + 1) xs) (part xs c.loop.counter c.in-Some.item e);
      few = c.loop.invariant.few;
      disjoint = c.loop.invariant.disjoint;
    }
