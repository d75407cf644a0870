use Rattle.std.proofs.Common.{◌≡◌, List, ℕ, Some, drop}
use Rattle.fmp_bytes.specs.Bytes.{cut_at}
use Rattle.fmp_trace_check.proofs.report.after_blank.Given as goal

-- what follows the first blank of what is left follows the first one of the text
abbrev pub invariant-loop-index : goal.invariant-loop-index
invariant-loop-index l = (following : List ℕ) → (cut_at 32 (drop l.index l.text)).1 ≡ Some following → (cut_at 32 l.text).1 ≡ Some following
