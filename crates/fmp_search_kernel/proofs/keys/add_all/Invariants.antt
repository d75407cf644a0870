use Rattle.std.proofs.Common.{◌≡◌, ◌++◌, take}
use Rattle.fmp_search_kernel.proofs.keys.add_all.Given as goal

abbrev pub invariant-loop-number : goal.invariant-loop-number
invariant-loop-number l = l.words ≡ l.fn.words ++ take l.number-index l.numbers
