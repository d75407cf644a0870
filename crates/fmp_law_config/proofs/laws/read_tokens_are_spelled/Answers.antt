use Rattle.fmp_law_config.proofs.TokensSpelled.{tokens_are_spelled}
use Rattle.fmp_law_config.proofs.laws.read_tokens_are_spelled.Goals as goal

pub returns : goal.returns
returns c = tokens_are_spelled
