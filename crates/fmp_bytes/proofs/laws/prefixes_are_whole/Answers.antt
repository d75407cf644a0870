use Rattle.fmp_bytes.proofs.Prefixes.{prefix-append}
use Rattle.fmp_bytes.proofs.laws.prefixes_are_whole.Goals as goal

pub returns : goal.returns
returns c = prefix-append
