use Rattle.std.proofs.Common.{sym}
use Rattle.fmp_text.specs.Printed.{value_text}
use Rattle.fmp_text.proofs.quick.constant_front.Goals as goal

pub returns-in_default-word_front-3-clause-printed : goal.returns-in_default-word_front-3-clause-printed
unfolding value_text
returns-in_default-word_front-3-clause-printed c = λ names own. c.word_front-in-Mode-2.ensures.printed names (sym c.as_slice-in-Mode-2.ensures)
