use Rattle.std.proofs.Common.{◌+◌, ◌*◌, drop, ap, sym, ◌∙◌, arith}
use Rattle.fmp_time.specs.Times.{Times}
use Rattle.fmp_time.specs.Words.{made_from}
use Rattle.fmp_time.proofs.Making.{made_next, made_end}
use Rattle.fmp_time.proofs.timers.Timers.become_words.Goals as goal

pub loop-at-preserved : goal.loop-at-preserved
loop-at-preserved c =
    let ws = c.args.words.now in
    let i = c.loop-at.at in
    record { rest = ap (λ (s : Times). made_from s (drop (3 * (i + 1)) ws)) c.arm_by.ensures ∙ sym (made_next c.loop-at.self ws i c.loop-at-test.true) ∙ c.loop-at.invariant.rest }

pub returns : goal.returns
returns c = let end = c.loop-at-test.false in sym (made_end c.loop-at.self c.args.words.now (3 * c.loop-at.at) (omega (arith, end))) ∙ c.loop-at.invariant.rest
