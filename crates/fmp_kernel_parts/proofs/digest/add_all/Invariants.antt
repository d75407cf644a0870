use Rattle.std.proofs.Common.{◌≡◌, drop}
use Rattle.fmp_kernel_parts.specs.Digests.{added_all}
use Rattle.fmp_kernel_parts.proofs.digest.add_all.Given as goal

-- with what is left it becomes what it is to be
abbrev pub invariant-loop-item : goal.invariant-loop-item
invariant-loop-item g l = added_all g.T.ToDigest.digested (drop l.item-index l.items) l.digest ≡ added_all g.T.ToDigest.digested l.items l.initial.digest
