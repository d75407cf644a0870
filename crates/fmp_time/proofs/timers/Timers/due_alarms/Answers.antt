use Rattle.std.proofs.Common.{filter, sym, ap, ◌∙◌}
use Rattle.fmp_codes.specs.declared.numbers.Object.{Object}
use Rattle.fmp_time.specs.Left.{is_over}
use Rattle.fmp_time.specs.Times.{Times, alarm_of, left_of, all_objects}
use Rattle.fmp_time.proofs.Dues.{marked_over}
use Rattle.fmp_time.proofs.Served.{filter_none}
use Rattle.fmp_time.proofs.timers.Timers.due_alarms.Goals as goal

pub returns-then-has_due : goal.returns-then-has_due
returns-then-has_due c =
    c.marked_objects.ensures ∙ marked_over c.self.inside.differences c.self.inside.waits alarm_of all_objects c.marks.result c.marks.ensures
    ∙ ap (λ (m : Times). filter (λ (x : Object). is_over (left_of m (alarm_of x))) all_objects) c.self.view_is

pub returns-else-has_due : goal.returns-else-has_due
returns-else-has_due c = c.new.ensures ∙ sym (filter_none _ all_objects (λ (x : Object). c.has_due.ensures.none c.if-has_due.false (alarm_of x)))
