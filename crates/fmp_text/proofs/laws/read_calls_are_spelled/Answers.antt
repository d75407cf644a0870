use Rattle.fmp_text.proofs.SpelledCalls.{call_is_spelled}
use Rattle.fmp_text.proofs.laws.read_calls_are_spelled.Goals as goal

pub returns : goal.returns
returns c = call_is_spelled
