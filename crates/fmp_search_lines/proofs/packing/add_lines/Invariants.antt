use Rattle.std.proofs.Common.{◌≡◌, ◌++◌, take}
use Rattle.fmp_search_lines.proofs.packing.add_lines.Given as goal

abbrev pub invariant-loop-line : goal.invariant-loop-line
invariant-loop-line l = l.words ≡ l.fn.words ++ take l.line-index l.lines
