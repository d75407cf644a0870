use Rattle.fmp_calls.proofs.Matched.{are_of_kinds-values_of}
use Rattle.fmp_calls.proofs.laws.arguments_have_their_kinds.Goals as goal

pub returns : goal.returns
returns c = are_of_kinds-values_of
