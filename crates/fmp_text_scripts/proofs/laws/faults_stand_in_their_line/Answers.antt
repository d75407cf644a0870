use Rattle.fmp_text_scripts.proofs.FirstFaults.{first_fault}
use Rattle.fmp_text_scripts.proofs.laws.faults_stand_in_their_line.Goals as goal

pub returns : goal.returns
returns c = first_fault
