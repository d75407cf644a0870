use Rattle.std.proofs.Common.{◌≡◌, ◌++◌, ◌≤◌, pos, sym, append-nil, vec_capacity, arith}
use Rattle.fmp_codes.specs.declared.kinds.ArgumentKind.TheVariants.{Object}
use Rattle.fmp_codes.specs.declared.kinds.ObjectKind.TheVariants.{Task}
use Rattle.fmp_codes.specs.declared.kinds.Value.TheVariants.{Number}
use Rattle.fmp_trace.specs.Values.{separator}
use Rattle.fmp_trace.proofs.values.put_arguments.Goals as goal
use Rattle.fmp_trace.proofs.values.put_arguments.Goals.{then-index-gt0+in_ok-extend_from_slice, else-index-gt0}
use Rattle.fmp_trace.proofs.Room.{front_wanting, item_wanting, arguments_next, separator_first, separator_after}

pub returns-in_err-extend_from_slice-clause-full : goal.returns-in_err-extend_from_slice-clause-full
returns-in_err-extend_from_slice-clause-full c =
    let full = c.in_err-extend_from_slice.ensures.full in
    front_wanting c.args.out.now.items _ c.loop-index.out.items c.loop-index.invariant.made (arguments_next c.args.names.now c.args.kinds.now c.args.values.now c.loop-index.index (Object Task) (Number (pos 0)) (omega (arith, c.requires, c.loop-index-test.true)) c.loop-index-test.true) _ _ (vec_capacity c.loop-index.out) c.loop-index.invariant.room
    (rw (separator_after c.loop-index.index c.if-index-gt0.true) (omega (arith, full, c.loop-index.out.ok)))

pub returns-in_err-put_value-clause-full : goal.returns-in_err-put_value-clause-full
returns-in_err-put_value-clause-full c =
    let kept : vec_capacity c.loop-index.out ≤ vec_capacity c.if-index-gt0.out = elim c.if-index-gt0.branch [
      | then-index-gt0+in_ok-extend_from_slice w ↦ rw w.out-is w.in_ok-extend_from_slice.ensures.capacity
      | else-index-gt0 w ↦ rw w.out-is (omega arith)
    ] in
    let added : c.if-index-gt0.out.items ≡ c.loop-index.out.items ++ separator c.loop-index.index = elim c.if-index-gt0.branch [
      | then-index-gt0+in_ok-extend_from_slice w ↦ rw (w.out-is, separator_after c.loop-index.index w.if-index-gt0.true) w.in_ok-extend_from_slice.ensures.items
      | else-index-gt0 w ↦ rw (w.out-is, separator_first c.loop-index.index w.if-index-gt0.false) (sym (append-nil c.loop-index.out.items))
    ] in
    item_wanting c.args.out.now.items _ c.loop-index.out.items c.loop-index.invariant.made (arguments_next c.args.names.now c.args.kinds.now c.args.values.now c.loop-index.index (Object Task) (Number (pos 0)) (omega (arith, c.requires, c.loop-index-test.true)) c.loop-index-test.true) _ _ (vec_capacity c.if-index-gt0.out) c.if-index-gt0.out.items added
    (omega (arith, kept, c.loop-index.invariant.room)) c.in_err-put_value.ensures.full
