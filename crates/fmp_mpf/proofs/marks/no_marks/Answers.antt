use Rattle.fmp_mpf.proofs.Bits.{marks-zero}
use Rattle.fmp_mpf.proofs.marks.no_marks.Goals as goal

pub returns : goal.returns
returns c = marks-zero
