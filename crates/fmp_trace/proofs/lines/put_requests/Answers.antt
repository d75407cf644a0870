use Rattle.std.proofs.Common.{◌≡◌, ◌++◌, ◌≤◌, vec_capacity, arith}
use Rattle.fmp_trace.specs.Lines.{request_lead}
use Rattle.fmp_trace.proofs.lines.put_requests.Goals as goal
use Rattle.fmp_trace.proofs.lines.put_requests.Goals.{then-index-eq0+in_ok-extend_from_slice, else-index-eq0+in_ok-extend_from_slice-2}
use Rattle.fmp_trace.proofs.Room.{front_wanting, item_wanting, requests_next, lead_after}

pub returns-in_err-extend_from_slice-clause-full : goal.returns-in_err-extend_from_slice-clause-full
returns-in_err-extend_from_slice-clause-full c =
    let full = c.in_err-extend_from_slice.ensures.full in
    front_wanting c.args.out.now.items _ c.loop-index.out.items c.loop-index.invariant.made (requests_next c.args.requests.now c.loop-index.index c.index-requests-index.result c.loop-index-test.true c.index-requests-index.is) _ _ (vec_capacity c.loop-index.out) c.loop-index.invariant.room
    (rw c.if-index-eq0.true (omega (arith, full, c.loop-index.out.ok)))

pub returns-in_err-extend_from_slice-2-clause-full : goal.returns-in_err-extend_from_slice-2-clause-full
returns-in_err-extend_from_slice-2-clause-full c =
    let full = c.in_err-extend_from_slice-2.ensures.full in
    front_wanting c.args.out.now.items _ c.loop-index.out.items c.loop-index.invariant.made (requests_next c.args.requests.now c.loop-index.index c.index-requests-index.result c.loop-index-test.true c.index-requests-index.is) _ _ (vec_capacity c.loop-index.out) c.loop-index.invariant.room
    (rw (lead_after c.loop-index.index c.if-index-eq0.false) (omega (arith, full, c.loop-index.out.ok)))

pub returns-in_err-put_number-clause-full : goal.returns-in_err-put_number-clause-full
returns-in_err-put_number-clause-full c =
    let kept : vec_capacity c.loop-index.out ≤ vec_capacity c.if-index-eq0.out = elim c.if-index-eq0.branch [
      | then-index-eq0+in_ok-extend_from_slice w ↦ rw w.out-is w.in_ok-extend_from_slice.ensures.capacity
      | else-index-eq0+in_ok-extend_from_slice-2 w ↦ rw w.out-is w.in_ok-extend_from_slice-2.ensures.capacity
    ] in
    let added : c.if-index-eq0.out.items ≡ c.loop-index.out.items ++ request_lead c.loop-index.index = elim c.if-index-eq0.branch [
      | then-index-eq0+in_ok-extend_from_slice w ↦ rw (w.out-is, w.if-index-eq0.true) w.in_ok-extend_from_slice.ensures.items
      | else-index-eq0+in_ok-extend_from_slice-2 w ↦ rw (w.out-is, lead_after c.loop-index.index w.if-index-eq0.false) w.in_ok-extend_from_slice-2.ensures.items
    ] in
    item_wanting c.args.out.now.items _ c.loop-index.out.items c.loop-index.invariant.made (requests_next c.args.requests.now c.loop-index.index c.index-requests-index.result c.loop-index-test.true c.index-requests-index.is) _ _ (vec_capacity c.if-index-eq0.out) c.if-index-eq0.out.items added (omega (arith, kept, c.loop-index.invariant.room)) (rw c.from.ensures at c.in_err-put_number.ensures.full)
