use Rattle.std.proofs.Common.{rules}
use Rattle.fmp_kernel_parts.specs.Digests.{told}
use Rattle.fmp_kernel_parts.proofs.digest.Digest.value.Goals as goal

pub returns : goal.returns
unfolding told
returns c = search rules
