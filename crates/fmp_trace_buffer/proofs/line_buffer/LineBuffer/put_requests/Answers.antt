use Rattle.std.proofs.Common.{◌≡◌, ◌++◌}
use Rattle.fmp_trace.proofs.Room.{requests_next, lead_after}
use Rattle.fmp_trace.specs.Lines.{request_lead}
use Rattle.fmp_trace_buffer.specs.Filled.{HasRoom}
use Rattle.fmp_trace_buffer.proofs.Room.{front_room, item_room}
use Rattle.fmp_trace_buffer.proofs.line_buffer.LineBuffer.put_requests.Goals as goal
use Rattle.fmp_trace_buffer.proofs.line_buffer.LineBuffer.put_requests.Goals.{then-index-eq0, else-index-eq0}

pub put_piece-requires-clause-room : goal.put_piece-requires-clause-room
put_piece-requires-clause-room c =
    let room : HasRoom c.loop-index.self (request_lead c.loop-index.index) =
    front_room c.args.self.now _ c.loop-index.self c.loop-index.invariant
    (requests_next c.args.requests.now c.loop-index.index c.index-requests-index.result c.loop-index-test.true c.index-requests-index.is) c.requires in
    rw c.if-index-eq0.true at room

pub put_byte-requires : goal.put_byte-requires
put_byte-requires c =
    let room : HasRoom c.loop-index.self (request_lead c.loop-index.index) =
    front_room c.args.self.now _ c.loop-index.self c.loop-index.invariant
    (requests_next c.args.requests.now c.loop-index.index c.index-requests-index.result c.loop-index-test.true c.index-requests-index.is) c.requires in
    rw (lead_after c.loop-index.index c.if-index-eq0.false) at room

pub put_number-requires : goal.put_number-requires
put_number-requires c =
    let added : c.if-index-eq0.self ≡ c.loop-index.self ++ request_lead c.loop-index.index = elim c.if-index-eq0.branch [
      | then-index-eq0 w ↦ rw (w.self-is, w.if-index-eq0.true) w.put_piece.ensures
      | else-index-eq0 w ↦ rw (w.self-is, lead_after c.loop-index.index w.if-index-eq0.false) w.put_byte.ensures
    ] in
    rw c.from.ensures
    (item_room c.args.self.now _ c.loop-index.self c.loop-index.invariant
    (requests_next c.args.requests.now c.loop-index.index c.index-requests-index.result c.loop-index-test.true c.index-requests-index.is) c.requires c.if-index-eq0.self added)
