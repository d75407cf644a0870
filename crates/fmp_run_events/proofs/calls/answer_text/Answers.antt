use Rattle.fmp_text.specs.Events.{reading_by_line}
use Rattle.fmp_run_devices.specs.Devices.{bytes_of}
use Rattle.fmp_run_events.proofs.Passing.{first_passed, flush_fails, leaves_passed}
use Rattle.fmp_run_events.proofs.calls.answer_text.Goals as goal

pub returns-clause-leaves : goal.returns-clause-leaves
returns-clause-leaves g c = λ p writes.
    let ended = c.answer_from_boot-ended in
    let whole = reading_by_line c.args.config.now.names p.all in
    rw (c.pass_on.ensures.same (ended.ensures.known writes))
    (leaves_passed c.args.detail c.args.config.now p.all whole (bytes_of (g.W.Sink.written c.args.trace.now)) _ ended.result c.pass_on.result c.pass_on.ensures.ended
    (ended.ensures.answered p writes) ended.ensures.kinds (ended.ensures.leaves p writes))

pub returns-clause-flush : goal.returns-clause-flush
returns-clause-flush g c = λ p.
    let ended = c.answer_from_boot-ended in
    flush_fails _ _ _ ended.result ended.ensures.reads
    (λ is writes. rw (c.pass_on.ensures.same (ended.ensures.known writes)) (rw is at (ended.ensures.leaves p writes)))

pub returns-clause-first : goal.returns-clause-first
returns-clause-first g c = λ p.
    let ended = c.answer_from_boot-ended in
    first_passed (reading_by_line c.args.config.now.names p.all) ended.result c.pass_on.result c.pass_on.ensures.ended (ended.ensures.first p)
