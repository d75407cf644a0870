use Rattle.std.specs.Prelude.{is_some}
use Rattle.std.proofs.Common.{List, ℕ, ◌++◌, ◌+◌, refl, ap, sym, ◌∙◌, subst, arith, rules}
use Rattle.std.proofs.lemmas.Grind.{common_steps}
use Rattle.fmp_bytes.proofs.Cutting.{shorter}
use Rattle.fmp_names.specs.Names.{NameLists}
use Rattle.fmp_run_devices.specs.Devices.{BeginsWith, bytes_of}
use Rattle.fmp_run_devices.proofs.Begun.{begun_first}
use Rattle.fmp_trace.proofs.Headed.{event_of-fits}
use Rattle.fmp_run_view.specs.Moments.{at_boot}
use Rattle.fmp_run_view.specs.Pages.{page_of, start_of}
use Rattle.fmp_run_view.proofs.SoFar.{begins, events_of, goes_on, is_begun, is_cut, is_cut_at_end, is_shown, is_reported, on_err, page_is, rest_of}
use Rattle.fmp_run_view.proofs.run.show.Goals as goal

pub returns-in_err-write_all-clause-begun : goal.returns-in_err-write_all-clause-begun
returns-in_err-write_all-clause-begun g c = λ tell records prints.
    let config = c.args.config.now in
    let trace = c.args.trace.now in
    let given = c.args.given.now in
    let old = bytes_of (g.W.Sink.written c.args.page.now) in
    let new = bytes_of (g.W.Sink.written c.write_all.new.sink) in
    let start = start_of config trace given in
    let events = rest_of config (at_boot config) (events_of records) in
    let begun : BeginsWith old start new =
    subst (λ (xs : List ℕ). BeginsWith old xs new) (c.in_ok-start.ensures.1 ∙ c.in_ok-showing.ensures.piece c.in_ok-start.ensures.0) (c.in_err-write_all.ensures.err tell) in
    let whole : BeginsWith old (page_of config trace given (events_of records)) new =
    subst (λ (xs : List ℕ). BeginsWith old xs new) (page_is config trace given (events_of records)) (begun_first old start events new begun) in
    on_err c.from_residual-in_err-write_all.result _ whole

pub loop-line-init : goal.loop-line-init
loop-line-init g c =
    let config = c.args.config.now in
    let old = bytes_of (g.W.Sink.written c.args.page.now) in
    record {
      so_far = λ records prints.
          rw (c.names-names.ensures.value, c.in_ok-showing.ensures.before) (begins config (is_some (g.W.Sink.written c.args.page.now)) c.args.text.now c.args.trace.now c.args.given.now old (bytes_of (g.W.Sink.written c.write_all.new.sink)) records prints
          (λ tell. c.in_ok-write_all.ensures.ok tell ∙ ap (λ (xs : List ℕ). old ++ xs) (c.in_ok-start.ensures.1 ∙ c.in_ok-showing.ensures.piece c.in_ok-start.ensures.0)));
      known = c.write_all.ensures.known;
      same = c.in_ok-showing.ensures.after ∙ sym c.in_ok-showing.ensures.before;
      events = rw c.in_ok-showing.ensures.before refl;
      processors = c.in_ok-showing.ensures.processors ∙ sym (ap (λ (names : NameLists). names.processors) c.names-names.ensures.value ∙ c.in_ok-showing.ensures.valid.same_processors);
      left = search rules;
      failures = grind (arith, common_steps);
    }

pub returns-in_default-event_of-clause-begun : goal.returns-in_default-event_of-clause-begun
returns-in_default-event_of-clause-begun g c = λ tell records prints.
    absurd (is_reported c.args.config.now c.names-names.result.now c.validity.ensures c.loop-line.number c.loop-line.showing.before c.loop-line.rest.now c.in-Some.line.now c.in-Some.after.now
    c.in-Some.ensures.line c.in-Some.ensures.rest (is_some (g.W.Sink.written c.args.page.now)) _ _ _ (c.loop-line.invariant.so_far records prints) (sym c.event_of.ensures ∙ c.in_default-event_of.is))

pub returns-in_default-event_of-clause-kinds : goal.returns-in_default-event_of-clause-kinds
returns-in_default-event_of-clause-kinds g c = λ records prints.
    absurd (is_reported c.args.config.now c.names-names.result.now c.validity.ensures c.loop-line.number c.loop-line.showing.before c.loop-line.rest.now c.in-Some.line.now c.in-Some.after.now
    c.in-Some.ensures.line c.in-Some.ensures.rest (is_some (g.W.Sink.written c.args.page.now)) _ _ _ (c.loop-line.invariant.so_far records prints) (sym c.event_of.ensures ∙ c.in_default-event_of.is))

pub returns-in_err-piece-clause-begun : goal.returns-in_err-piece-clause-begun
returns-in_err-piece-clause-begun g c = λ tell records prints.
    on_err c.from_residual-in_err-piece.result _ (is_begun c.args.config.now c.names-names.result.now (is_some (g.W.Sink.written c.args.page.now)) c.loop-line.number c.loop-line.showing.before c.loop-line.rest.now _ _ _ (c.loop-line.invariant.so_far records prints) tell)

pub returns-in_err-write_all-2-clause-begun : goal.returns-in_err-write_all-2-clause-begun
returns-in_err-write_all-2-clause-begun g c = λ tell records prints.
    let old = bytes_of (g.W.Sink.written c.loop-line.page) in
    let new = bytes_of (g.W.Sink.written c.write_all-in-Some.new.sink) in
    let piece = c.in_ok-piece.ensures.1 ∙ c.play.ensures.piece c.in_ok-piece.ensures.0 in
    on_err c.from_residual-in_err-write_all-2.result _ (is_cut c.args.config.now c.names-names.result.now c.validity.ensures c.loop-line.number c.loop-line.showing.before c.loop-line.rest.now c.in-Some.line.now c.in-Some.after.now
    c.in-Some.ensures.line c.in-Some.ensures.rest (is_some (g.W.Sink.written c.args.page.now)) _ _ _ (c.loop-line.invariant.so_far records prints) c.in-Some-event_of.event _ new (sym c.event_of.ensures ∙ c.in-Some-event_of.is) refl tell
    (subst (λ (xs : List ℕ). BeginsWith old xs new) piece (c.in_err-write_all-2.ensures.err (c.loop-line.invariant.known tell))))

pub loop-line-smaller : goal.loop-line-smaller
loop-line-smaller g c = shorter 10 c.loop-line.rest.now c.in-Some.after.now c.in-Some.ensures.rest

pub loop-line-preserved : goal.loop-line-preserved
loop-line-preserved g c =
    let old = bytes_of (g.W.Sink.written c.loop-line.page) in
    let piece = c.in_ok-piece.ensures.1 ∙ c.play.ensures.piece c.in_ok-piece.ensures.0 in
    record {
      so_far = λ records prints.
          goes_on c.args.config.now c.names-names.result.now c.validity.ensures c.loop-line.number c.loop-line.showing.before c.loop-line.rest.now c.in-Some.line.now c.in-Some.after.now
          c.in-Some.ensures.line c.in-Some.ensures.rest (is_some (g.W.Sink.written c.args.page.now)) _ _ _ (c.loop-line.invariant.so_far records prints) c.in-Some-event_of.event _ (bytes_of (g.W.Sink.written c.write_all-in-Some.new.sink))
          (sym c.event_of.ensures ∙ c.in-Some-event_of.is) c.play.ensures.before (λ tell. c.in_ok-write_all-2.ensures.ok (c.loop-line.invariant.known tell) ∙ ap (λ (xs : List ℕ). old ++ xs) (rw c.play.ensures.before piece));
      known = λ known. c.in_ok-write_all-2.ensures.known (c.loop-line.invariant.known known);
      same = c.play.ensures.after ∙ sym c.play.ensures.before;
      events = rw c.play.ensures.before (ap (λ (n : ℕ). n + 1) c.loop-line.invariant.events);
      processors = c.play.ensures.processors ∙ c.loop-line.invariant.processors;
      left = omega (arith, c.loop-line.invariant.left, shorter 10 c.loop-line.rest.now c.in-Some.after.now c.in-Some.ensures.rest);
      failures = grind (arith, common_steps);
    }

pub returns-in_err-end-clause-begun : goal.returns-in_err-end-clause-begun
returns-in_err-end-clause-begun g c = λ tell records prints.
    on_err c.from_residual-in_err-end.result _ (is_begun c.args.config.now c.names-names.result.now (is_some (g.W.Sink.written c.args.page.now)) c.loop-line.number c.loop-line.showing.before c.loop-line.rest.now _ _ _ (c.loop-line.invariant.so_far records prints) tell)

pub returns-in_err-write_all-3-clause-begun : goal.returns-in_err-write_all-3-clause-begun
returns-in_err-write_all-3-clause-begun g c = λ tell records prints.
    let old = bytes_of (g.W.Sink.written c.loop-line.page) in
    let new = bytes_of (g.W.Sink.written c.write_all-2.new.sink) in
    let piece = c.in_ok-end.ensures.1 ∙ c.end.ensures.piece c.in_ok-end.ensures.0 in
    on_err c.from_residual-in_err-write_all-3.result _ (is_cut_at_end c.args.config.now c.names-names.result.now (is_some (g.W.Sink.written c.args.page.now)) c.loop-line.number c.loop-line.showing.before c.loop-line.rest.now _ _ _
    (c.loop-line.invariant.so_far records prints) c.validity.ensures c.in_default.ensures.none tell new (subst (λ (xs : List ℕ). BeginsWith old xs new) piece (c.in_err-write_all-3.ensures.err (c.loop-line.invariant.known tell))))

pub returns-clause-shown : goal.returns-clause-shown
returns-clause-shown g c = λ tell records prints.
    let old = bytes_of (g.W.Sink.written c.loop-line.page) in
    let piece = c.in_ok-end.ensures.1 ∙ c.end.ensures.piece c.in_ok-end.ensures.0 in
    is_shown c.args.config.now c.names-names.result.now (is_some (g.W.Sink.written c.args.page.now)) c.loop-line.number c.loop-line.showing.before c.loop-line.rest.now _ _ _ (c.loop-line.invariant.so_far records prints) c.validity.ensures c.in_default.ensures.none tell _
    (c.in_ok-write_all-3.ensures.ok (c.loop-line.invariant.known tell) ∙ ap (λ (xs : List ℕ). old ++ xs) piece)

-- the event of a line is on one of the processors
pub play-requires-clause-on : goal.play-requires-clause-on
play-requires-clause-on g c =
    let fits = event_of-fits c.names-names.result.now c.in-Some.line.now c.in-Some-event_of.event c.validity.ensures (sym c.event_of.ensures ∙ c.in-Some-event_of.is) in
    omega (arith, fits.0, c.loop-line.invariant.processors)

-- a text has fewer events than bytes
pub play-requires-clause-room : goal.play-requires-clause-room
play-requires-clause-room g c = omega (arith, c.loop-line.invariant.events, c.loop-line.invariant.left, c.requires.short)
