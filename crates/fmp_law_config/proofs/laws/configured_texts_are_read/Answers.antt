use Rattle.fmp_law_config.proofs.Configured.{config_read}
use Rattle.fmp_law_config.proofs.laws.configured_texts_are_read.Goals as goal

pub returns : goal.returns
returns c = config_read
