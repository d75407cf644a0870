use Rattle.std.proofs.Common.{◌≡◌, ◌++◌, ◌∙◌, ℕ, List, [], IsTrue, false, true, refl, sym, ap, subst, arith, rules, append_assoc}
use Rattle.std.proofs.lemmas.Bool.{false≢true}
use Rattle.std.proofs.lemmas.Grind.{common_steps}
use Rattle.std.proofs.lemmas.List.{append-nil}
use Rattle.std.proofs.lemmas.Result.{err_from_is_err_and}
use Rattle.fmp_run_devices.specs.Devices.{bytes_of}
use Rattle.fmp_run_stream.proofs.Passing.{grown}
use Rattle.fmp_run_stream.proofs.Streaming.{answers_moved, begun_from, torn}
use Rattle.fmp_run_stream.specs.Streams.{Leaves, pending}
use Rattle.fmp_run_stream.proofs.stream.Answering.gather.Goals as goal

pub loop-self-init : goal.loop-self-init
loop-self-init g c =
    let made = c.in_ok-make_room.ensures in
    record {
      failures = grind (arith, common_steps);
      counted = grind (arith, common_steps);
      few = grind (arith, common_steps);
      processors = grind (arith, common_steps);
      room = made.room;
      same = grind (arith, common_steps);
      known = c.make_room.ensures.known;
      answers = λ d tells text whole old remaining writes before.
          answers_moved d tells c.args.config.now text whole old c.args.self.now c.make_room.new.self _ _ remaining c.make_room.ensures.same
          (λ report. (made.ok (writes report)).2 ∙ ap (λ (xs : List ℕ). bytes_of (g.W.Sink.written c.args.trace.now) ++ xs) before.passed ∙ append-nil (bytes_of (g.W.Sink.written c.args.trace.now))) before.report;
      grown = λ known. ((made.ok known).0, (made.ok known).1);
    }

pub loop-self-preserved : goal.loop-self-preserved
loop-self-preserved g c =
    let next = c.in_ok-answer_next.ensures in
    let made = c.in_ok-make_room-2.ensures in
    record {
      failures = grind (arith, common_steps);
      counted = grind (arith, common_steps);
      few = grind (arith, common_steps);
      processors = grind (arith, common_steps);
      room = made.room;
      same = grind (arith, common_steps);
      known = λ known. c.make_room-in-loop-self.ensures.known (c.loop-self.invariant.known known);
      answers = λ d tells text whole old remaining writes before.
          answers_moved d tells c.args.config.now text whole old c.answer_next.new.self c.make_room-in-loop-self.new.self _ _ remaining c.make_room-in-loop-self.ensures.same
          (λ report. (made.ok (c.loop-self.invariant.known (writes report))).2) (next.answers d tells text whole old _ remaining (c.loop-self.invariant.answers d tells text whole old remaining writes before));
      grown = λ known.
          let before = c.loop-self.invariant.grown known in
          let more = made.ok (c.loop-self.invariant.known known) in
          grown _ _ _ before.0 more.0 before.1 more.1;
    }

pub returns-in_err-answer_next-clause-first : goal.returns-in_err-answer_next-clause-first
returns-in_err-answer_next-clause-first g c =
    let p = err_from_is_err_and c.from_residual-in_err-answer_next.result c.from_residual-in_err-answer_next.ensures.1 in
    rw (p.1, p.2)
    (λ d text whole old remaining before.
    c.in_err-answer_next.ensures.first d text whole old _ remaining (c.loop-self.invariant.answers d false text whole old remaining (λ e. absurd (false≢true e)) before))

pub returns-in_err-answer_next-clause-leaves : goal.returns-in_err-answer_next-clause-leaves
returns-in_err-answer_next-clause-leaves g c = λ known.
    let p = err_from_is_err_and c.from_residual-in_err-answer_next.result c.from_residual-in_err-answer_next.ensures.1 in
    rw (p.1, p.2)
    (λ other d text whole old remaining before.
    rw c.in_err-answer_next.ensures.kept (c.in_err-answer_next.ensures.leaves d text whole old _ remaining (c.loop-self.invariant.answers d true text whole old remaining (λ e. known) before)))

pub returns-in_err-answer_next-clause-begun : goal.returns-in_err-answer_next-clause-begun
returns-in_err-answer_next-clause-begun g c = λ known other d text whole old remaining before.
    let more = c.loop-self.invariant.grown known in
    rw c.in_err-answer_next.ensures.kept
    (begun_from d c.args.config.now text whole old c.args.self.now c.loop-self.self _ _ (pending c.loop-self.self) remaining more.0 before (c.loop-self.invariant.answers d true text whole old remaining (λ e. known) before) more.1)

pub returns-in_err-make_room-2-clause-write : goal.returns-in_err-make_room-2-clause-write
returns-in_err-make_room-2-clause-write g c = λ known is d text whole old remaining before.
    let more = c.loop-self.invariant.grown known in
    let report = c.in_ok-answer_next.ensures.answers d true text whole old _ remaining (c.loop-self.invariant.answers d true text whole old remaining (λ e. known) before) in
    let begun = begun_from d c.args.config.now text whole old c.args.self.now c.answer_next.new.self _ _ (pending c.answer_next.new.self) remaining more.0 before report more.1 in
    torn d c.args.config.now whole.events old begun.0.0 _ (pending c.answer_next.new.self) _ begun.0.1 begun.1 (c.in_err-make_room-2.ensures.err (c.loop-self.invariant.known known))

pub returns-in_err-make_room-clause-write : goal.returns-in_err-make_room-clause-write
returns-in_err-make_room-clause-write g c = λ known is d text whole old remaining before.
    let bytes = bytes_of (g.W.Sink.written c.args.trace.now) in
    let report = answers_moved d true c.args.config.now text whole old c.args.self.now c.args.self.now _ (bytes ++ pending c.args.self.now) remaining (refl, refl, refl, refl)
    (λ e. ap (λ (xs : List ℕ). bytes ++ xs) before.passed ∙ append-nil bytes) before.report in
    let begun = begun_from d c.args.config.now text whole old c.args.self.now c.args.self.now bytes bytes (pending c.args.self.now) remaining [] before report (sym (append-nil bytes)) in
    torn d c.args.config.now whole.events old begun.0.0 _ (pending c.args.self.now) _ begun.0.1 begun.1 (c.in_err-make_room.ensures.err known)

pub returns-clause-begun : goal.returns-clause-begun
returns-clause-begun g c = λ known other d text whole old remaining before.
    let more = c.loop-self.invariant.grown known in
    let report = c.in_ok-answer_next.ensures.answers d true text whole old _ remaining (c.loop-self.invariant.answers d true text whole old remaining (λ e. known) before) in
    begun_from d c.args.config.now text whole old c.args.self.now c.answer_next.new.self _ _ (pending c.answer_next.new.self) remaining more.0 before report more.1

pub returns-clause-answers : goal.returns-clause-answers
returns-clause-answers g c = λ d tells text whole old remaining writes before.
    c.in_ok-answer_next.ensures.answers d tells text whole old _ remaining (c.loop-self.invariant.answers d tells text whole old remaining writes before)
