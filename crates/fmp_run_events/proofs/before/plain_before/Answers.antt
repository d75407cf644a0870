use Rattle.std.proofs.Common.{◌≡◌, ◌-◌, ◌+◌, suc, sym, ◌∙◌, arith}
use Rattle.fmp_bytes.specs.Bytes.{pieces_of}
use Rattle.fmp_run_events.proofs.Following.{line_played, none_played, none_left}
use Rattle.fmp_run_events.proofs.before.plain_before.Goals as goal

pub returns-in_default : goal.returns-in_default
returns-in_default c =
    let none = none_played c.args.config.now.names (c.args.n - c.loop.counter) c.loop.plain.state c.loop.rest.now c.in_default.ensures.none in
    sym none ∙ c.loop.invariant.state

pub loop-preserved : goal.loop-preserved
loop-preserved c =
    let left = c.args.n - (c.loop.counter + 1) in
    let one_more : c.args.n - c.loop.counter ≡ suc left = omega (arith, c.loop-test.true) in
    let played = line_played c.args.config.now.names left c.loop.plain.state c.loop.rest.now c.in-Some.line.now c.in-Some.after.now c.in-Some.ensures.line c.in-Some.ensures.rest in
    record {
      state = rw (c.play_line.ensures.state, c.names-names.ensures.value) (sym played ∙ (rw one_more at c.loop.invariant.state));
      steps = omega (arith, c.play_line.ensures.steps, c.loop.invariant.steps);
    }

pub returns : goal.returns
returns c =
    let over : c.args.n - c.loop.counter ≡ 0 = omega (arith, c.loop-test.false) in
    let none = none_left c.args.config.now.names c.loop.plain.state (pieces_of 10 c.loop.rest.now) in
    sym none ∙ (rw over at c.loop.invariant.state)
