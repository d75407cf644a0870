use Rattle.fmp_text.proofs.SpelledTexts.{text_is_spelled}
use Rattle.fmp_text.proofs.laws.read_texts_are_spelled.Goals as goal

pub returns : goal.returns
returns c = text_is_spelled
