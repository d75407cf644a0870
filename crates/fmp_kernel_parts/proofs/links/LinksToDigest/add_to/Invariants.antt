use Rattle.std.proofs.Common.{◌≡◌}
use Rattle.fmp_kernel_parts.specs.Digests.{added_items}
use Rattle.fmp_kernel_parts.proofs.links.LinksToDigest.add_to.Given as goal

-- the items so far are added
abbrev pub invariant-loop-item : goal.invariant-loop-item
invariant-loop-item g l = l.digest ≡ added_items g.row.ITEMS l.self l.item l.initial.digest
