use Rattle.std.proofs.Common.{◌≡◌, drop}
use Rattle.fmp_kernel_parts.specs.Digests.{added_all}
use Rattle.fmp_kernel_same.proofs.same.add_each.Given as goal

-- with what is left it becomes what it is to be
abbrev pub invariant-loop-value : goal.invariant-loop-value
invariant-loop-value g l = added_all g.T.ValueToDigest.digested (drop l.value-index l.values) l.digest ≡ added_all g.T.ValueToDigest.digested l.values l.initial.digest
