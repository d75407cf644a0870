use Rattle.std.proofs.Common.{◌≡◌, drop}
use Rattle.fmp_search_pattern.specs.Matching.{any}
use Rattle.fmp_search_pattern.specs.Lines.{moment_reads}
use Rattle.fmp_search_pattern.proofs.lines.some_read.Given as goal

abbrev pub invariant-loop-moment : goal.invariant-loop-moment
invariant-loop-moment l = any moment_reads (drop l.moment-index l.lasting) ≡ any moment_reads l.fn.lasting
