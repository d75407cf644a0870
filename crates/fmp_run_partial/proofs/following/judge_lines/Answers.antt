use Rattle.std.proofs.Common.{◌≡◌, ◌<◌, ◌^◌, refl, sym, ap, subst, inl, arith}
use Rattle.std.proofs.lemmas.Result.{err_from_is_err_and}
use Rattle.fmp_bytes.proofs.Cutting.{shorter}
use Rattle.fmp_rules.specs.Boot.{booted}
use Rattle.fmp_names.specs.Names.{AreValid}
use Rattle.fmp_plain.specs.Run.{Run}
use Rattle.fmp_run_partial.specs.Following.{state_after, verdict_after}
use Rattle.fmp_run_partial.proofs.Followed.{goes_on, ends, is_whole, is_short}
use Rattle.fmp_run_partial.proofs.following.judge_lines.Goals as goal

pub loop-line-init : goal.loop-line-init
loop-line-init c =
    let state_is : c.in_ok-follower.follower.plain.state ≡ booted c.args.config.now = ap (λ (m : Run). m.state) c.in_ok-follower.ensures.state in
    let steps_are : c.in_ok-follower.follower.plain.steps ≡ 0 = ap (λ (m : Run). m.steps) c.in_ok-follower.ensures.state in
    let verdict_is = c.in_ok-follower.ensures.verdict in
    record {
      judged = rw (state_is, verdict_is) refl;
      steps = omega (arith, steps_are);
      left = omega arith;
    }

pub loop-line-smaller : goal.loop-line-smaller
loop-line-smaller c = shorter 10 c.loop-line.rest.now c.in-Some.after.now c.in-Some.ensures.rest

pub returns-in_err-said : goal.returns-in_err-said
returns-in_err-said c =
    let named = c.names-names.ensures.value in
    let p = err_from_is_err_and c.from_residual-in_err-said.result c.from_residual-in_err-said.ensures.1 in
    rw (p.1, p.2) (ends c.args.config.now.names _ c.loop-line.follower.verdict c.loop-line.follower.plain.state c.loop-line.number c.loop-line.rest.now c.loop-line.invariant.judged c.in-Some.line.now c.in-Some.after.now c.in_err-said.field-0.0 c.in-Some.ensures.line c.in-Some.ensures.rest (rw named at c.in_err-said.ensures))

pub loop-line-preserved : goal.loop-line-preserved
loop-line-preserved c =
    let named = c.names-names.ensures.value in
    let names = c.args.config.now.names in
    let n = c.loop-line.number in
    let v = c.loop-line.follower.verdict in
    let w = c.loop-line.follower.plain.state in
    let line = c.in-Some.line.now in
    let s = c.in_ok-said.said in
    let small : n < 2 ^ 64 = omega (arith, c.loop-line.invariant.left, c.requires) in
    let verdict_is : c.follow.new.self.verdict ≡ verdict_after names v w n s line = rw named at c.in_ok-follow.ensures.verdict in
    let state_is : c.follow.new.self.plain.state ≡ state_after v w s = c.follow.ensures.state in
    record {
      judged = rw (verdict_is, state_is) (goes_on names _ v w n c.loop-line.rest.now c.loop-line.invariant.judged (subst AreValid named c.validity.ensures) small line c.in-Some.after.now s c.in-Some.ensures.line c.in-Some.ensures.rest (rw named at c.in_ok-said.ensures));
      steps = omega (arith, c.loop-line.invariant.steps, c.follow.ensures.steps);
      left = omega (arith, c.loop-line.invariant.left, shorter 10 c.loop-line.rest.now c.in-Some.after.now c.in-Some.ensures.rest);
    }

pub returns-then-is_empty : goal.returns-then-is_empty
returns-then-is_empty c = is_whole c.args.config.now.names _ c.loop-line.follower.verdict c.loop-line.follower.plain.state c.loop-line.number c.loop-line.rest.now c.loop-line.invariant.judged c.in_default.ensures.none (sym c.if-is_empty.ensures)

pub returns : goal.returns
returns c = inl (is_short c.args.config.now.names _ c.loop-line.follower.verdict c.loop-line.follower.plain.state c.loop-line.number c.loop-line.rest.now c.loop-line.invariant.judged c.in_default.ensures.none (sym c.if-is_empty.ensures))
