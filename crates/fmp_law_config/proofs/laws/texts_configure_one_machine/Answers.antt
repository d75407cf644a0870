use Rattle.fmp_law_config.proofs.Configured.{one_machine}
use Rattle.fmp_law_config.proofs.laws.texts_configure_one_machine.Goals as goal

pub returns : goal.returns
returns c = one_machine
