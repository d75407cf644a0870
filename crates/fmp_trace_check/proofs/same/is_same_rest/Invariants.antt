use Rattle.std.proofs.Common.{◌≡◌, length}
use Rattle.std.specs.Str.{bytes_eq}
use Rattle.fmp_trace_check.proofs.same.is_same_rest.Given as goal

-- what is left is the same exactly where the whole is
abbrev pub invariant-loop-a : goal.invariant-loop-a
invariant-loop-a l = bytes_eq l.a l.b ≡ bytes_eq l.fn.a l.fn.b

abbrev pub decreases-loop-a : goal.decreases-loop-a
decreases-loop-a l = length l.a
