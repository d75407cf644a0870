use Rattle.std.proofs.Common.{◌≡◌, None, replicate}
use Rattle.fmp_spin.proofs.holder.all_free.Given as goal

abbrev pub invariant-loop-index : goal.invariant-loop-index
invariant-loop-index l = l.holders.items ≡ replicate l._index None
