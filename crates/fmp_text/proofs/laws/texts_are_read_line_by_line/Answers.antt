use Rattle.fmp_text.proofs.Scanned.{reading_from-cut, reading_from-append}
use Rattle.fmp_text.proofs.laws.texts_are_read_line_by_line.Goals as goal

pub returns-clause-whole : goal.returns-clause-whole
returns-clause-whole c = reading_from-cut

pub returns-clause-begun : goal.returns-clause-begun
returns-clause-begun c = reading_from-append
