use Rattle.fmp_trace_check.proofs.Patched.{patched_own}
use Rattle.fmp_trace_check.proofs.laws.differences_patch.Goals as goal

pub returns : goal.returns
returns c = patched_own
