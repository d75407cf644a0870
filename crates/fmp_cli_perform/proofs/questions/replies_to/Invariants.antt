use Rattle.fmp_cli_perform.specs.Asked.{AreReplies}
use Rattle.fmp_cli_perform.proofs.questions.replies_to.Given as goal

-- those to the rows so far
abbrev pub invariant-loop-row : goal.invariant-loop-row
invariant-loop-row g l = AreReplies l.texts.config.items l.texts.scripts.items l.asking.request l.yielded l.replies.items
