use Rattle.std.proofs.Common.{◌≡◌, drop}
use Rattle.fmp_search_pattern.specs.Lines.{moment_reads}
use Rattle.fmp_search_pattern.proofs.lines.moment_reads.Given as goal

abbrev pub invariant-loop-part : goal.invariant-loop-part
invariant-loop-part l = moment_reads (drop l.part-index l.part-items) ≡ moment_reads l.fn.moment
