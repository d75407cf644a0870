use Rattle.fmp_text.proofs.SpelledCalls.{call_in-spelled}
use Rattle.fmp_text.proofs.laws.spelled_calls_are_read.Goals as goal

pub returns : goal.returns
returns c = call_in-spelled
