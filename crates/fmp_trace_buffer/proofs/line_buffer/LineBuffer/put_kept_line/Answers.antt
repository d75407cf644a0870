use Rattle.std.proofs.Common.{ap, arith, length, ◌∙◌}
use Rattle.fmp_trace_buffer.proofs.line_buffer.LineBuffer.put_kept_line.Goals as goal

pub put_echoed_line-requires-clause-echo : goal.put_echoed_line-requires-clause-echo
put_echoed_line-requires-clause-echo c =
    rw c.len-bytes.ensures (c.room.ensures.text ∙ c.requires.echo (λ none. omega (arith, c.if-bytes-eq0.false, c.len-bytes.ensures, ap length none)))
