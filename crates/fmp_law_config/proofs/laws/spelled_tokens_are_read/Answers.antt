use Rattle.fmp_law_config.proofs.TokensRead.{tokens_are_read}
use Rattle.fmp_law_config.proofs.laws.spelled_tokens_are_read.Goals as goal

pub returns : goal.returns
returns c = tokens_are_read
