use Rattle.std.proofs.Common.{◌≡◌, drop}
use Rattle.fmp_kernel_parts.specs.Digests.{added_all}
use Rattle.fmp_dtq.specs.DataQueue.{added_value}
use Rattle.fmp_dtq.proofs.add_values.Given as goal

-- with what is left it becomes what it is to be
abbrev pub invariant-loop-value : goal.invariant-loop-value
invariant-loop-value l = added_all added_value (drop l.value-index l.values) l.digest ≡ added_all added_value l.values l.initial.digest
