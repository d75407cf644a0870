use Rattle.std.proofs.Common.{arith}
use Rattle.fmp_trace_buffer.proofs.Stores.{front_stored}
use Rattle.fmp_trace_buffer.proofs.line_buffer.LineBuffer.put_echo.Goals as goal

pub returns-in-Some : goal.returns-in-Some
returns-in-Some c =
    let front = c.in-Some.ensures.cases in
    rw (c.store_front.ensures.bytes, front.same, ← c.self.view_is)
    (front_stored c.self.inside.bytes.items c.args.text.now _ c.self.inside.filled c.args.bytes 32 (omega (arith, c.self.invariant.0, c.self.invariant.1)) c.if-bytes-le32.true front.enough)
