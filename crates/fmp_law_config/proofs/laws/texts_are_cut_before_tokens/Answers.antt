use Rattle.fmp_law_config.proofs.Cuts.{cut_before}
use Rattle.fmp_law_config.proofs.laws.texts_are_cut_before_tokens.Goals as goal

pub returns : goal.returns
returns c = λ text before token rest e. cut_before text before token rest e
