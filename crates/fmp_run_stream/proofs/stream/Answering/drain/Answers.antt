use Rattle.std.proofs.Common.{◌∙◌, ◌++◌, List, ℕ, ap, sym, false, true}
use Rattle.std.proofs.lemmas.Result.{err_from_is_err_and, on_ok_weaker}
use Rattle.fmp_run_stream.proofs.Passing.{unless_failed_write, when_failed_write}
use Rattle.fmp_run_devices.specs.Devices.{bytes_of}
use Rattle.fmp_run_stream.proofs.Streaming.{answers_moved, torn}
use Rattle.fmp_run_stream.specs.Streams.{LeavesFrom, pending}
use Rattle.fmp_run_stream.proofs.stream.Answering.drain.Goals as goal

pub returns-clause-streams : goal.returns-clause-streams
returns-clause-streams g c =
    on_ok_weaker c.gather-gathered.result
    (λ answers d tells text whole old remaining writes before.
    record {
      report = answers_moved d tells c.args.config.now text whole old c.gather-gathered.new.self c.pass.new.self _ _ remaining c.pass.ensures.same
          (λ report. c.in_ok-pass.ensures.ok (c.gather-gathered.ensures.known (writes report))) (answers d tells text whole old remaining writes before);
      passed = c.in_ok-pass.ensures.passed;
    })
    c.gather-gathered.ensures.answers

pub returns-then-has_failed_write-clause-leaves : goal.returns-then-has_failed_write-clause-leaves
returns-then-has_failed_write-clause-leaves g c = λ known.
    let failed = sym c.has_failed_write.ensures ∙ c.if-has_failed_write.true in
    when_failed_write (LeavesFrom c.args.config.now c.args.self.now (bytes_of (g.W.Sink.written c.args.trace.now)) (bytes_of (g.W.Sink.written c.gather-gathered.new.trace)))
    c.gather-gathered.result failed (c.gather-gathered.ensures.write known failed)

pub returns-clause-leaves : goal.returns-clause-leaves
returns-clause-leaves g c = λ known.
    rw (c.in_ok-pass.ensures.ok (c.gather-gathered.ensures.known known))
    (unless_failed_write
    (LeavesFrom c.args.config.now c.args.self.now (bytes_of (g.W.Sink.written c.args.trace.now)) (bytes_of (g.W.Sink.written c.gather-gathered.new.trace) ++ pending c.gather-gathered.new.self))
    c.gather-gathered.result (sym c.has_failed_write.ensures ∙ c.if-has_failed_write.false) (c.gather-gathered.ensures.leaves known))

pub returns-in_err-pass-clause-leaves : goal.returns-in_err-pass-clause-leaves
returns-in_err-pass-clause-leaves g c = λ known.
    let p = err_from_is_err_and c.from_residual.result c.from_residual.ensures.1 in
    rw (p.1, p.2)
    (λ d text whole old remaining before.
    let begun = c.gather-gathered.ensures.begun known (sym c.has_failed_write.ensures ∙ c.if-has_failed_write.false) d text whole old remaining before in
    torn d c.args.config.now whole.events old begun.0.0 _ (pending c.gather-gathered.new.self) _ begun.0.1 begun.1 (c.in_err-pass.ensures.err (c.gather-gathered.ensures.known known)))
