use Rattle.std.proofs.Common.{◌≡◌, ◌+◌, false, subst, arith}
use Rattle.fmp_bytes.specs.Bytes.{pieces_of}
use Rattle.fmp_bytes.proofs.Cutting.{shorter}
use Rattle.fmp_names.specs.Names.{NameLists}
use Rattle.fmp_out.specs.Putting.{Adds}
use Rattle.fmp_rules.specs.Boot.{booted}
use Rattle.fmp_trace_check.proofs.Owing.{all_put, one_put}
use Rattle.fmp_trace_partial.specs.Saying.{line_said}
use Rattle.fmp_run_partial.specs.Differing.{beyond, difference, differences_from}
use Rattle.fmp_run_partial.proofs.Hunks.{first_line, no_lines}
use Rattle.fmp_run_partial.proofs.differing.put_differences.Goals as goal

pub loop-line-smaller : goal.loop-line-smaller
loop-line-smaller c = shorter 10 c.loop-line.rest.now c.in-Some.after.now c.in-Some.ensures.rest

pub loop-line-preserved : goal.loop-line-preserved
loop-line-preserved c =
    let n = c.loop-line.number in
    let w = c.loop-line.player.plain.state in
    let names = c.args.config.now.names in
    let line = c.in-Some.line.now in
    let said = line_said names n line in
    let same = c.names-names.ensures.value in
    let text = subst (λ (ns : NameLists). Adds (difference ns n w line (line_said ns n line)) c.loop-line.out c.differ.new.out) same c.differ.ensures.text in
    let state = subst (λ (ns : NameLists). c.differ.new.out.wanting ≡ false → c.differ.new.self.plain.state ≡ beyond w (line_said ns n line)) same
    c.differ.ensures.state in
    let put = one_put (differences_from names n w (pieces_of 10 c.loop-line.rest.now)) (difference names n w line said)
    (differences_from names (n + 1) (beyond w said) (pieces_of 10 c.in-Some.after.now))
    (differences_from names 1 (booted c.args.config.now) (pieces_of 10 c.args.text.now)) c.args.out.now c.loop-line.out c.differ.new.out
    (first_line names n w c.loop-line.rest.now line c.in-Some.after.now c.in-Some.ensures.line c.in-Some.ensures.rest) c.loop-line.invariant.report text in
    record {
      report = λ whole. rw (state whole) (put whole);
      steps = omega (arith, c.loop-line.invariant.steps, c.differ.ensures.steps);
      left = omega (arith, c.loop-line.invariant.left, shorter 10 c.loop-line.rest.now c.in-Some.after.now c.in-Some.ensures.rest);
    }

pub returns : goal.returns
returns c =
    all_put (differences_from c.args.config.now.names c.loop-line.number c.loop-line.player.plain.state (pieces_of 10 c.loop-line.rest.now))
    (differences_from c.args.config.now.names 1 (booted c.args.config.now) (pieces_of 10 c.args.text.now)) c.args.out.now c.loop-line.out
    (no_lines c.args.config.now.names c.loop-line.number c.loop-line.player.plain.state c.loop-line.rest.now c.in_default.ensures.none)
    c.loop-line.invariant.report
