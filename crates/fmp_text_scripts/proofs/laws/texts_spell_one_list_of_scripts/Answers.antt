use Rattle.fmp_text_scripts.proofs.SpelledScripts.{one_list}
use Rattle.fmp_text_scripts.proofs.laws.texts_spell_one_list_of_scripts.Goals as goal

pub returns : goal.returns
returns c = one_list
