use Rattle.std.proofs.Common.{◌≡◌, ◌∙◌, ◌++◌, ℕ, List, subst, arith, rules, refl, sym, false, true}
use Rattle.std.proofs.lemmas.Bool.{false≢true}
use Rattle.std.proofs.lemmas.Grind.{common_steps}
use Rattle.std.proofs.lemmas.List.{append_cancel_left}
use Rattle.std.proofs.lemmas.Result.{err_from_is_err_and}
use Rattle.fmp_text.specs.Limits.{most_bytes}
use Rattle.fmp_run_devices.specs.Devices.{bytes_of}
use Rattle.fmp_run_stream.specs.Streams.{Streams}
use Rattle.fmp_run_devices.proofs.Handed.{handed_back, moved_not, moved_on}
use Rattle.fmp_run_devices.proofs.Known.{kept_bytes, kept_known}
use Rattle.fmp_run_stream.proofs.Streaming.{measure_falls, passed_begun, stream_done, stream_passed}
use Rattle.fmp_run_events.proofs.calls.answer_all.Goals as goal

pub loop-trace-init : goal.loop-trace-init
loop-trace-init g c = record {
  read_failures = refl;
  write_failures = refl;
  counted = c.requires.counted;
  few = c.requires.few;
  fits = c.requires.fits;
  wanting = c.requires.wanting;
  processors = c.requires.processors;
  room = c.requires.room;
  done = λ ended. absurd (false≢true (sym c.requires.unended ∙ ended));
  write_known = λ known. known;
  moves = moved_not _ _;
  end = λ ended. absurd (false≢true (sym c.requires.unended ∙ ended));
  streams = λ all rest is none d tells text whole old writes told.
      subst (λ (xs : List ℕ). Streams d tells c.args.config.now text whole old c.args.run.now (bytes_of (g.W.Sink.written c.args.trace.now)) xs)
      (append_cancel_left (g.S.Source.given c.args.events.now) all rest is) told;
}

pub loop-trace-smaller : goal.loop-trace-smaller
loop-trace-smaller g c =
    let same = c.drain.ensures.same in
    let ended : c.loop-trace.run.feed.ended ≡ false = search rules in
    measure_falls _ _ most_bytes _ _ ended c.loop-trace.invariant.fits
    (λ going. let moved = c.in_ok-take_piece.ensures.grows (sym same.0 ∙ going) (sym same.2 ∙ c.in_ok-drain.ensures.wanting.all_taken) in rw same.1 moved)

pub loop-trace-preserved : goal.loop-trace-preserved
loop-trace-preserved g c =
    let same = c.drain.ensures.same in
    let before = c.loop-trace.invariant in
    let piece = c.take_piece.ensures.moves in
    record {
      read_failures = grind (arith, common_steps);
      write_failures = grind (arith, common_steps);
      counted = c.in_ok-drain.ensures.counted;
      few = c.in_ok-drain.ensures.few;
      fits = rw same.1 c.in_ok-take_piece.ensures.fits;
      wanting = c.in_ok-drain.ensures.wanting;
      processors = search rules;
      room = search rules;
      done = c.in_ok-drain.ensures.done;
      write_known = λ known. c.drain.ensures.known (kept_known _ _ c.flush.ensures.bytes (before.write_known known));
      moves = moved_on _ _ _ _ _ _ before.moves piece;
      end = λ ended. c.in_ok-take_piece.ensures.end (sym same.0 ∙ ended);
      streams = λ all rest is none d tells text whole old writes told.
          let middle = handed_back _ _ piece.more (piece.more ++ rest) rest piece.handed refl in
          let going : c.loop-trace.run.feed.ended ≡ false = search rules in
          let so_far = before.streams all (piece.more ++ rest) (is ∙ sym middle) (λ ended. absurd (false≢true (sym going ∙ ended))) d tells text whole old writes told in
          let passed = stream_passed d tells _ text whole old c.loop-trace.run _ _ _ (λ report. kept_bytes _ _ c.flush.ensures.bytes (before.write_known (writes report))) so_far in
          c.in_ok-drain.ensures.streams d tells text whole old _ (λ report. kept_known _ _ c.flush.ensures.bytes (before.write_known (writes report)))
          (c.in_ok-take_piece.ensures.streams (piece.more ++ rest) rest middle (λ ended. none (same.0 ∙ ended)) d tells _ text whole old _ passed);
    }

pub returns-in_err-drain-clause-first : goal.returns-in_err-drain-clause-first
returns-in_err-drain-clause-first g c = λ p d text whole old told.
    let piece = c.take_piece.ensures.moves in
    let middle = handed_back _ _ piece.more (piece.more ++ p.rest) p.rest piece.handed refl in
    let going : c.loop-trace.run.feed.ended ≡ false = search rules in
    let so_far = c.loop-trace.invariant.streams p.all (piece.more ++ p.rest) (p.is ∙ sym middle) (λ ended. absurd (false≢true (sym going ∙ ended))) d false text whole old (λ e. absurd (false≢true e)) told in
    let passed = stream_passed d false _ text whole old c.loop-trace.run _ _ _ (λ e. absurd (false≢true e)) so_far in
    let taken = c.in_ok-take_piece.ensures.streams (piece.more ++ p.rest) p.rest middle (λ ended. p.end (c.in_ok-take_piece.ensures.end ended)) d false _ text whole old _ passed in
    let e = err_from_is_err_and c.from_residual-in_err-drain.result c.from_residual-in_err-drain.ensures.1 in
    rw (e.1, e.2) (c.in_err-drain.ensures.first d text whole old _ taken)

pub returns-in_err-drain-clause-leaves : goal.returns-in_err-drain-clause-leaves
returns-in_err-drain-clause-leaves g c = λ p writes d text whole old told.
    let piece = c.take_piece.ensures.moves in
    let middle = handed_back _ _ piece.more (piece.more ++ p.rest) p.rest piece.handed refl in
    let going : c.loop-trace.run.feed.ended ≡ false = search rules in
    let so_far = c.loop-trace.invariant.streams p.all (piece.more ++ p.rest) (p.is ∙ sym middle) (λ ended. absurd (false≢true (sym going ∙ ended))) d true text whole old (λ e. writes) told in
    let written = c.loop-trace.invariant.write_known writes in
    let passed = stream_passed d true _ text whole old c.loop-trace.run _ _ _ (λ e. kept_bytes _ _ c.flush.ensures.bytes written) so_far in
    let taken = c.in_ok-take_piece.ensures.streams (piece.more ++ p.rest) p.rest middle (λ ended. p.end (c.in_ok-take_piece.ensures.end ended)) d true _ text whole old _ passed in
    let e = err_from_is_err_and c.from_residual-in_err-drain.result c.from_residual-in_err-drain.ensures.1 in
    rw (e.1, e.2) (c.in_err-drain.ensures.leaves (kept_known _ _ c.flush.ensures.bytes written) d text whole old _ taken)

pub returns-clause-answered : goal.returns-clause-answered
returns-clause-answered g c = λ p writes d text whole old told.
    stream_done d true _ text whole old c.loop-trace.run _ _ refl
    (c.loop-trace.invariant.streams p.all p.rest p.is (λ ended. p.end (c.loop-trace.invariant.end ended)) d true text whole old (λ e. writes) told) (c.loop-trace.invariant.done (search rules))

pub returns-in_err-take_piece-clause-first : goal.returns-in_err-take_piece-clause-first
returns-in_err-take_piece-clause-first g c = λ p d text whole old told.
    let e = err_from_is_err_and c.from_residual-in_err-take_piece.result c.from_residual-in_err-take_piece.ensures.1 in
    rw (e.1, e.2) (c.in_err-take_piece.ensures.first whole)

pub returns-in_err-take_piece-clause-leaves : goal.returns-in_err-take_piece-clause-leaves
returns-in_err-take_piece-clause-leaves g c = λ p writes d text whole old told.
    let piece = c.take_piece.ensures.moves in
    let middle = handed_back _ _ piece.more (piece.more ++ p.rest) p.rest piece.handed refl in
    let going : c.loop-trace.run.feed.ended ≡ false = search rules in
    let so_far = c.loop-trace.invariant.streams p.all (piece.more ++ p.rest) (p.is ∙ sym middle) (λ ended. absurd (false≢true (sym going ∙ ended))) d true text whole old (λ e. writes) told in
    let passed = stream_passed d true _ text whole old c.loop-trace.run _ _ _ (λ e. kept_bytes _ _ c.flush.ensures.bytes (c.loop-trace.invariant.write_known writes)) so_far in
    let e = err_from_is_err_and c.from_residual-in_err-take_piece.result c.from_residual-in_err-take_piece.ensures.1 in
    rw (e.1, e.2) (c.in_err-take_piece.ensures.leaves (piece.more ++ p.rest) p.rest middle d _ text whole old _ passed)

pub returns-in_err-flush-clause-leaves : goal.returns-in_err-flush-clause-leaves
returns-in_err-flush-clause-leaves g c = λ p writes d text whole old told.
    let going : c.loop-trace.run.feed.ended ≡ false = search rules in
    let so_far = c.loop-trace.invariant.streams p.all p.rest p.is (λ ended. absurd (false≢true (sym going ∙ ended))) d true text whole old (λ e. writes) told in
    let begun = passed_begun d true _ text whole old c.loop-trace.run _ _ _ refl (kept_bytes _ _ c.flush.ensures.bytes (c.loop-trace.invariant.write_known writes)) so_far in
    let e = err_from_is_err_and c.from_residual.result c.from_residual.ensures.1 in
    rw (e.1, e.2) begun
