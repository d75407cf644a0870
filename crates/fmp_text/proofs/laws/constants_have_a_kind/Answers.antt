use Rattle.fmp_text.proofs.ConstantWords.{constant_has_kind, constant_word}
use Rattle.fmp_text.proofs.laws.constants_have_a_kind.Goals as goal

pub returns-clause-kind : goal.returns-clause-kind
returns-clause-kind c = constant_has_kind

pub returns-clause-constant : goal.returns-clause-constant
returns-clause-constant c = λ kind word value is. (constant_word kind word value is).1
