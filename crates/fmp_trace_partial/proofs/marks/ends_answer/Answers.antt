use Rattle.std.proofs.Common.{ap, ◌∙◌}
use Rattle.fmp_trace_partial.specs.Marks.{is_keyed}
use Rattle.fmp_trace_partial.proofs.FilledLoops.{first_ends}
use Rattle.fmp_trace_partial.proofs.marks.ends_answer.Goals as goal

pub returns-in-Some : goal.returns-in-Some
returns-in-Some c = rw c.in-Some.is (c.is_keyed.ensures ∙ ap is_keyed c.cut.ensures.prefix ∙ first_ends c.in-Some.text.now)
