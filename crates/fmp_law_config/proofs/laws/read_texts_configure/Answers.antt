use Rattle.fmp_law_config.proofs.Configured.{config_was}
use Rattle.fmp_law_config.proofs.laws.read_texts_configure.Goals as goal

pub returns : goal.returns
returns c = config_was
