use Rattle.std.proofs.Common.{◌≡◌, ◌∙◌, ◌++◌, List, ap, sym}
use Rattle.std.proofs.lemmas.List.{append-nil, drop_all}
use Rattle.std.proofs.lemmas.Result.{IfOk-weaker}
use Rattle.fmp_codes.specs.declared.records.Event.{Event}
use Rattle.fmp_run_shrink.proofs.written.ReadBack.{is_read_back}
use Rattle.fmp_run_shrink.specs.Written.Telling.{event_lines}
use Rattle.fmp_run_shrink.proofs.written.events.events_text.Goals as goal

pub returns-clause-read : goal.returns-clause-read
returns-clause-read c = λ on bits few.
    let names = c.args.names.now in
    let out = c.loop-event.out.bytes in
    let none = drop_all c.loop-event.event-index c.args.events.now c.loop-event-test.false in
    IfOk-weaker c.finish.result _ _ (λ text whole.
    let so_far = c.loop-event.invariant.so_far whole.0 in
    let all : text.items ≡ event_lines names c.args.events.now =
    whole.1 ∙ sym (append-nil out) ∙ ap (λ (es : List Event). out ++ event_lines names es) (sym none) ∙ so_far.1 in
    is_read_back names text.items c.args.events.now c.validity.ensures all on bits few)
    c.finish.ensures.whole
