use Rattle.std.proofs.Common.{sym, ◌∙◌}
use Rattle.fmp_step_words.proofs.Numbers.{numbered-task}
use Rattle.fmp_plain_machine.proofs.firsts.number_of.Goals as goal

pub returns-in-Some-clause-value : goal.returns-in-Some-clause-value
returns-in-Some-clause-value c = numbered-task c.in-Some.task ∙ sym c.in-Some.is
