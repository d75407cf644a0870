use Rattle.fmp_text_scripts.proofs.SpelledScripts.{scripts_in-spelled}
use Rattle.fmp_text_scripts.proofs.laws.spelled_scripts_are_read.Goals as goal

pub returns : goal.returns
returns c = scripts_in-spelled
