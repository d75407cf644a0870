use Rattle.std.proofs.Common.{◌≡◌, drop}
use Rattle.fmp_search_pattern.specs.Lines.{part_reads}
use Rattle.fmp_search_pattern.proofs.lines.part_reads.Given as goal

abbrev pub invariant-loop-item : goal.invariant-loop-item
invariant-loop-item l = part_reads (drop l.item-index l.item-items) ≡ part_reads l.fn.part
