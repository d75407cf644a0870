use Rattle.std.proofs.Common.{◌≡◌, ◌≤◌, ◌+◌, drop}
use Rattle.fmp_cli_questions.specs.Answers as spec
use Rattle.fmp_cli_questions.proofs.answers.count_of.Given as goal

abbrev pub invariant-loop-reply : goal.invariant-loop-reply
invariant-loop-reply l =
    (l.count + spec.count_of l.judgement (drop l.reply-index l.replies) ≡ spec.count_of l.fn.judgement l.fn.replies) × (l.count ≤ l.reply-index)
