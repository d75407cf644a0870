use Rattle.std.proofs.Common.{◌∙◌, false, true, Err, ap, inl, refl}
use Rattle.std.proofs.lemmas.Bool.{false≢true}
use Rattle.std.proofs.lemmas.Result.{err_from_is_err_and}
use Rattle.fmp_run_devices.specs.Devices.{bytes_of}
use Rattle.fmp_rules.specs.Boot.{booted}
use Rattle.fmp_run_stream.proofs.Streaming.{start_leaves, stream_start}
use Rattle.fmp_run_events.proofs.calls.answer_from_boot.Goals as goal

pub returns-in_err-piece-clause-leaves : goal.returns-in_err-piece-clause-leaves
returns-in_err-piece-clause-leaves g c = λ p writes.
    let e = err_from_is_err_and c.from_residual.result c.from_residual.ensures.1 in
    rw (e.1, e.2) (inl refl)

pub returns-in_err-run-clause-leaves : goal.returns-in_err-run-clause-leaves
returns-in_err-run-clause-leaves g c = λ p writes.
    let e = err_from_is_err_and c.from_residual-in_err-run.result c.from_residual-in_err-run.ensures.1 in
    rw (e.1, e.2) (inl refl)

pub returns-in_err-begin-clause-leaves : goal.returns-in_err-begin-clause-leaves
returns-in_err-begin-clause-leaves g c = λ p writes.
    let ready = c.in_ok-run.ensures in
    let e = err_from_is_err_and c.from_residual-in_err-begin.result c.from_residual-in_err-begin.ensures.1 in
    rw (e.1, e.2) (start_leaves c.args.detail c.args.config.now _ _ _ _ _ (λ is. c.in_err-begin.ensures.memory writes (ap Err is))
    (λ is. rw (ready.detail, c.names.ensures.value) at (c.in_err-begin.ensures.write writes (booted c.args.config.now) ready.stands (ap Err is))) c.in_err-begin.ensures.kinds)

pub returns-clause-first : goal.returns-clause-first
returns-clause-first g c = λ p.
    let ready = c.in_ok-run.ensures in
    let same = c.begin.ensures.same in
    let before = stream_start c.args.detail false c.args.config.now p.all (bytes_of (g.W.Sink.written c.args.trace.now)) _ c.begin.new.self
    (rw (ready.detail, c.names.ensures.value) at (c.in_ok-begin.ensures.detail (booted c.args.config.now) ready.stands)) (same.0 ∙ ready.feed) (rw same.1 ready.stands) (same.2 ∙ ready.count) (c.begin.ensures.passed ∙ ready.passed) (λ told. absurd (false≢true told)) in
    c.answer_all.ensures.first p _ _ _ _ before

pub returns-clause-leaves : goal.returns-clause-leaves
returns-clause-leaves g c = λ p writes.
    let ready = c.in_ok-run.ensures in
    let same = c.begin.ensures.same in
    let before = stream_start c.args.detail true c.args.config.now p.all (bytes_of (g.W.Sink.written c.args.trace.now)) _ c.begin.new.self
    (rw (ready.detail, c.names.ensures.value) at (c.in_ok-begin.ensures.detail (booted c.args.config.now) ready.stands)) (same.0 ∙ ready.feed) (rw same.1 ready.stands) (same.2 ∙ ready.count) (c.begin.ensures.passed ∙ ready.passed)
    (λ told. rw (ready.detail, c.names.ensures.value) at (c.in_ok-begin.ensures.ok writes (booted c.args.config.now) ready.stands)) in
    c.answer_all.ensures.leaves p (c.begin.ensures.known writes) _ _ _ _ before

pub returns-clause-answered : goal.returns-clause-answered
returns-clause-answered g c = λ p writes.
    let ready = c.in_ok-run.ensures in
    let same = c.begin.ensures.same in
    let before = stream_start c.args.detail true c.args.config.now p.all (bytes_of (g.W.Sink.written c.args.trace.now)) _ c.begin.new.self
    (rw (ready.detail, c.names.ensures.value) at (c.in_ok-begin.ensures.detail (booted c.args.config.now) ready.stands)) (same.0 ∙ ready.feed) (rw same.1 ready.stands) (same.2 ∙ ready.count) (c.begin.ensures.passed ∙ ready.passed)
    (λ told. rw (ready.detail, c.names.ensures.value) at (c.in_ok-begin.ensures.ok writes (booted c.args.config.now) ready.stands)) in
    c.answer_all.ensures.answered p (c.begin.ensures.known writes) _ _ _ _ before
