use Rattle.fmp_text.proofs.SpelledTexts.{one_list}
use Rattle.fmp_text.proofs.laws.texts_spell_one_list.Goals as goal

pub returns : goal.returns
returns c = one_list
