use Rattle.std.proofs.Common.{refl, rules, arith}
use Rattle.fmp_trace_buffer.proofs.Counted.{next_digits}
use Rattle.fmp_trace_buffer.proofs.count.Count.increase.Goals as goal

pub invariant_of-self : goal.invariant_of-self
invariant_of-self c =
    let inside = c.self.inside in
    (c.self.invariant.0, next_digits inside.number inside.length _ inside.digits (omega (arith, c.requires, c.self.view_is)) c.if-following-gt0.true (search rules) c.self.invariant.1 refl c.if-self-following-lt57.true)
