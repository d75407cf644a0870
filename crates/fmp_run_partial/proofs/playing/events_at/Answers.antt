use Rattle.fmp_run_partial.proofs.Played.{next_event}
use Rattle.fmp_run_partial.proofs.playing.events_at.Goals as goal

pub loop-line-preserved : goal.loop-line-preserved
loop-line-preserved c =
    rw c.in_ok-put_event.ensures (next_event c.loop-line.all.items c.args.events.now c.loop-line.rest.now c.in-Some.after.now c.in-Some.line.now c.event_at.result _
    c.in-Some.ensures.cases.0 c.event_at.ensures c.loop-line.invariant)
