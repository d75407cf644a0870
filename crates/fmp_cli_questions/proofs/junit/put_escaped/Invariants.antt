use Rattle.std.proofs.Common.{drop}
use Rattle.fmp_out.specs.Putting.{Owes}
use Rattle.fmp_cli_questions.specs.Answers.{escaped}
use Rattle.fmp_cli_questions.proofs.junit.put_escaped.Given as goal

-- the bytes that are left
abbrev pub invariant-loop-byte : goal.invariant-loop-byte
invariant-loop-byte l = Owes (escaped (drop l.byte-index l.bytes)) (escaped l.fn.bytes) l.fn.out l.out
