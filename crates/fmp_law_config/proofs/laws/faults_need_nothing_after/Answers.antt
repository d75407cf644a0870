use Rattle.fmp_law_config.proofs.FirstFaults.{first_fault}
use Rattle.fmp_law_config.proofs.laws.faults_need_nothing_after.Goals as goal

pub returns : goal.returns
returns c = first_fault
