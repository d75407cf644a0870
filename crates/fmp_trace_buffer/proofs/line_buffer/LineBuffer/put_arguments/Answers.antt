use Rattle.std.proofs.Common.{◌≡◌, ◌++◌, pos, sym, append-nil, arith}
use Rattle.fmp_codes.specs.declared.kinds.ArgumentKind.TheVariants.{Object}
use Rattle.fmp_codes.specs.declared.kinds.ObjectKind.TheVariants.{Task}
use Rattle.fmp_codes.specs.declared.kinds.Value.TheVariants.{Number}
use Rattle.fmp_trace.proofs.Room.{arguments_next, separator_first, separator_after}
use Rattle.fmp_trace.specs.Values.{separator}
use Rattle.fmp_trace_buffer.specs.Filled.{HasRoom}
use Rattle.fmp_trace_buffer.proofs.Room.{front_room, item_room}
use Rattle.fmp_trace_buffer.proofs.line_buffer.LineBuffer.put_arguments.Goals as goal
use Rattle.fmp_trace_buffer.proofs.line_buffer.LineBuffer.put_arguments.Goals.{then-index-gt0, else-index-gt0}

pub put_piece-requires-clause-room : goal.put_piece-requires-clause-room
put_piece-requires-clause-room c =
    let room : HasRoom c.loop-index.self (separator c.loop-index.index) =
    front_room c.args.self.now _ c.loop-index.self c.loop-index.invariant
    (arguments_next c.args.names.now c.args.kinds.now c.args.values.now c.loop-index.index (Object Task) (Number (pos 0)) (omega (arith, c.requires.matched, c.loop-index-test.true)) c.loop-index-test.true) c.requires.room in
    rw (separator_after c.loop-index.index c.if-index-gt0.true) at room

pub put_value-requires : goal.put_value-requires
put_value-requires c =
    let added : c.if-index-gt0.self ≡ c.loop-index.self ++ separator c.loop-index.index = elim c.if-index-gt0.branch [
      | then-index-gt0 w ↦ rw (w.self-is, separator_after c.loop-index.index w.if-index-gt0.true) w.put_piece.ensures
      | else-index-gt0 w ↦ rw (w.self-is, separator_first c.loop-index.index w.if-index-gt0.false) (sym (append-nil c.loop-index.self))
    ] in
    item_room c.args.self.now _ c.loop-index.self c.loop-index.invariant
    (arguments_next c.args.names.now c.args.kinds.now c.args.values.now c.loop-index.index (Object Task) (Number (pos 0)) (omega (arith, c.requires.matched, c.loop-index-test.true)) c.loop-index-test.true) c.requires.room c.if-index-gt0.self added
