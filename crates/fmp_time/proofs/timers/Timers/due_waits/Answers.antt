use Rattle.std.proofs.Common.{filter, sym, ap, ◌∙◌}
use Rattle.fmp_codes.specs.declared.numbers.Task.{Task}
use Rattle.fmp_time.specs.Left.{is_over}
use Rattle.fmp_time.specs.Times.{Times, wait_of, left_of}
use Rattle.fmp_time.proofs.Dues.{marked_over}
use Rattle.fmp_time.proofs.Served.{filter_none}
use Rattle.fmp_time.proofs.timers.Timers.due_waits.Goals as goal

pub returns-then-has_due : goal.returns-then-has_due
returns-then-has_due c =
    c.marked_waits.ensures ∙ marked_over c.self.inside.differences c.self.inside.waits wait_of c.self.inside.waits c.marks.result c.marks.ensures
    ∙ ap (λ (m : Times). filter (λ (x : Task). is_over (left_of m (wait_of x))) m.waits) c.self.view_is

pub returns-else-has_due : goal.returns-else-has_due
returns-else-has_due c = c.new.ensures ∙ sym (filter_none _ c.args.self.now.waits (λ (x : Task). c.has_due.ensures.none c.if-has_due.false (wait_of x)))
