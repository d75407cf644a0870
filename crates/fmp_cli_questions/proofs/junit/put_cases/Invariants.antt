use Rattle.std.proofs.Common.{drop}
use Rattle.fmp_out.specs.Putting.{Owes}
use Rattle.fmp_cli_questions.specs.Answers.{cases_of}
use Rattle.fmp_cli_questions.proofs.junit.put_cases.Given as goal

-- the cases that are left
abbrev pub invariant-loop-reply : goal.invariant-loop-reply
invariant-loop-reply l = Owes (cases_of (drop l.reply-index l.replies)) (cases_of l.fn.replies) l.fn.out l.out
