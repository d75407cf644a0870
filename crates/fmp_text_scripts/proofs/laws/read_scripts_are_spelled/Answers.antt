use Rattle.fmp_text_scripts.proofs.SpelledScripts.{text_is_spelled}
use Rattle.fmp_text_scripts.proofs.laws.read_scripts_are_spelled.Goals as goal

pub returns : goal.returns
returns c = text_is_spelled
