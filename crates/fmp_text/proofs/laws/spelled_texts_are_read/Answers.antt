use Rattle.fmp_text.proofs.SpelledTexts.{reading_of-spelled}
use Rattle.fmp_text.proofs.laws.spelled_texts_are_read.Goals as goal

pub returns : goal.returns
returns c = reading_of-spelled
