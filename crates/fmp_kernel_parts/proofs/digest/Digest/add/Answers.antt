use Rattle.std.proofs.Common.{rules}
use Rattle.fmp_kernel_parts.specs.Digests.{added}
use Rattle.fmp_kernel_parts.proofs.digest.Digest.add.Goals as goal

pub returns : goal.returns
unfolding added
returns c = search rules
