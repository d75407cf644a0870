use Rattle.std.proofs.Common.{◌≡◌, ℕ, drop, length}
use Rattle.std.specs.Str.{bytes_eq}
use Rattle.fmp_trace_check.proofs.same.has_same_words.Given as goal

-- what is left is the same exactly where the whole is
abbrev pub invariant-loop-word : goal.invariant-loop-word
invariant-loop-word l = record {
  same : bytes_eq l.a l.b ≡ bytes_eq l.fn.a l.fn.b;
  left : (k : ℕ) × (l.a ≡ drop k l.fn.a) × (l.b ≡ drop k l.fn.b);
  long : length l.a ≡ length l.b;
}

abbrev pub decreases-loop-word : goal.decreases-loop-word
decreases-loop-word l = length l.a
