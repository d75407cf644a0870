use Rattle.std.proofs.Common.{refl, ◌∙◌}
use Rattle.fmp_text.specs.Printed.{event_text}
use Rattle.fmp_text.proofs.Echoed.{front_taken, rest_within}
use Rattle.fmp_text.proofs.Fronted.{event_spelled}
use Rattle.fmp_text.proofs.quick.quick_event.Goals as goal

pub overflow_sub-bytes : goal.overflow_sub-bytes
overflow_sub-bytes c = rest_within c.after_blanks-following.result.now c.in_ok-end.ensures.front.token c.in_ok-end.end.now c.in_ok-end.ensures.front.parts

pub returns-clause-front : goal.returns-clause-front
returns-clause-front c =
    event_spelled c.args.names.now c.in_ok-processor.processor c.args.text.now c.after_blanks-start.result.now c.in_ok-first.first.now c.in_ok-number.second.now c.in_ok-third.third.now
    c.after_blanks-following.result.now c.in_ok-end.end.now c.after_end_blanks.result.now c.in_ok-number.number c.happening_front.new.event c.in_ok-processor.ensures c.after_blanks-start.ensures
    c.in_ok-first.ensures c.in_ok-number.ensures.parts c.in_ok-third.ensures c.after_blanks-following.ensures c.in_ok-end.ensures.front c.after_end_blanks.ensures

pub returns-clause-echo : goal.returns-clause-echo
returns-clause-echo c = λ some.
    let kept = c.keep.ensures some in
    kept.1 ∙ front_taken c.after_blanks-following.result.now (event_text c.args.names.now c.happening_front.new.event) c.in_ok-end.end.now (c.in_ok-end.ensures.printed refl kept.0)
