use Rattle.std.proofs.Common.{◌≡◌, ◌+◌, false, true, sym, ◌∙◌, arith}
use Rattle.fmp_bytes.specs.Bytes.{pieces_of}
use Rattle.fmp_bytes.proofs.Cutting.{shorter}
use Rattle.fmp_out.specs.Putting.{Adds}
use Rattle.fmp_trace.specs.Heads.{event_of}
use Rattle.fmp_trace_check.specs.Comparing.{difference_at, hunks_from}
use Rattle.fmp_trace_check.specs.Differences.{difference_text}
use Rattle.fmp_trace_check.specs.Walking.{following, own_core, prints_answer}
use Rattle.fmp_trace_check.specs.declared.comparing.Shown.TheVariants.{Each}
use Rattle.fmp_trace_check.proofs.Hunks.{hunk_of_own, hunk_of_other, no_hunks}
use Rattle.fmp_trace_check.proofs.Owing.{all_put, none_put, one_put}
use Rattle.fmp_trace_check.proofs.comparing.put_hunks.Goals as goal

pub loop-line-smaller-then-not-play : goal.loop-line-smaller-then-not-play
loop-line-smaller-then-not-play c = shorter 10 c.loop-line.rest.now c.in-Some.after.now c.in-Some.ensures.rest

pub loop-line-smaller : goal.loop-line-smaller
loop-line-smaller c = shorter 10 c.loop-line.rest.now c.in-Some.after.now c.in-Some.ensures.rest

pub loop-line-preserved-then-not-play : goal.loop-line-preserved-then-not-play
loop-line-preserved-then-not-play c =
    let n = c.loop-line.number + 1 in
    let w = c.loop-line.player.plain.state in
    let names = c.args.names.now in
    let line = c.in-Some.line.now in
    let other : prints_answer names w n line (event_of names line) ≡ false = sym c.play.ensures.same ∙ c.if-not-play.true in
    let own_is : c.as_slice.result.now ≡ own_core names w n (event_of names line) = c.as_slice.ensures ∙ c.play.ensures.own in
    let put : Adds (difference_text Each (difference_at names w n line)) c.loop-line.out c.put_hunk.new.out = rw own_is at c.put_hunk.ensures in
    record {
      report = rw c.play.ensures.state (one_put (hunks_from names w n (pieces_of 10 c.loop-line.rest.now)) (difference_text Each (difference_at names w n line))
          (hunks_from names (following w (event_of names line)) (n + 1) (pieces_of 10 c.in-Some.after.now))
          (hunks_from names c.args.player.now.plain.state (c.args.n + 1) (pieces_of 10 c.args.text.now)) c.args.out.now c.loop-line.out c.put_hunk.new.out
          (hunk_of_other names w n c.loop-line.rest.now line c.in-Some.after.now c.in-Some.ensures.line c.in-Some.ensures.rest other)
          c.loop-line.invariant.report put);
      steps = omega (arith, c.loop-line.invariant.steps, c.play.ensures.steps);
      count = c.play.ensures.count;
      left = omega (arith, c.loop-line.invariant.left, shorter 10 c.loop-line.rest.now c.in-Some.after.now c.in-Some.ensures.rest);
    }

pub loop-line-preserved : goal.loop-line-preserved
loop-line-preserved c =
    let n = c.loop-line.number + 1 in
    let w = c.loop-line.player.plain.state in
    let names = c.args.names.now in
    let line = c.in-Some.line.now in
    let own : prints_answer names w n line (event_of names line) ≡ true = sym c.play.ensures.same ∙ c.if-not-play.false in
    record {
      report = rw c.play.ensures.state (none_put (hunks_from names w n (pieces_of 10 c.loop-line.rest.now))
          (hunks_from names (following w (event_of names line)) (n + 1) (pieces_of 10 c.in-Some.after.now))
          (hunks_from names c.args.player.now.plain.state (c.args.n + 1) (pieces_of 10 c.args.text.now)) c.args.out.now c.loop-line.out
          (hunk_of_own names w n c.loop-line.rest.now line c.in-Some.after.now c.in-Some.ensures.line c.in-Some.ensures.rest own) c.loop-line.invariant.report);
      steps = omega (arith, c.loop-line.invariant.steps, c.play.ensures.steps);
      count = c.play.ensures.count;
      left = omega (arith, c.loop-line.invariant.left, shorter 10 c.loop-line.rest.now c.in-Some.after.now c.in-Some.ensures.rest);
    }

pub returns : goal.returns
returns c =
    all_put (hunks_from c.args.names.now c.loop-line.player.plain.state (c.loop-line.number + 1) (pieces_of 10 c.loop-line.rest.now))
    (hunks_from c.args.names.now c.args.player.now.plain.state (c.args.n + 1) (pieces_of 10 c.args.text.now)) c.args.out.now c.loop-line.out
    (no_hunks c.args.names.now c.loop-line.player.plain.state (c.loop-line.number + 1) c.loop-line.rest.now c.in_default.ensures.none)
    c.loop-line.invariant.report
