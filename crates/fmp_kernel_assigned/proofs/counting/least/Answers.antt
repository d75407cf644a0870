use Rattle.std.proofs.Common.{◌≡◌, ◌+◌, ℕ, subst, sym, arith}
use Rattle.fmp_rules.specs.Due.{IsLeast}
use Rattle.fmp_kernel_assigned.specs.Counting.{ticks_below, AreShown}
use Rattle.fmp_kernel_assigned.proofs.Least.{least_none, least_more}
use Rattle.fmp_kernel_assigned.proofs.counting.least.Goals as goal

pub loop-index-init : goal.loop-index-init
loop-index-init c = record { least = least_none c.args.timers.now; waits = λ h. absurd (omega (arith, h)) }

pub loop-index-preserved : goal.loop-index-preserved
loop-index-preserved c = record {
  least = subst (IsLeast (AreShown (ticks_below (c.loop-index.index + 1)) c.args.timers.now)) (sym c.lesser-least.ensures)
      (least_more c.loop-index.index c.from_index.result c.from_index.ensures.number c.args.timers.now c.loop-index.least c.next.result c.loop-index.invariant.least c.next.ensures.least);
  waits = λ h. c.next.ensures.waits;
}

pub returns-clause-least : goal.returns-clause-least
returns-clause-least c =
    let all : c.loop-index.index ≡ 8 = omega arith in
    subst (λ (i : ℕ). IsLeast (AreShown (ticks_below i) c.args.timers.now) c.loop-index.least) all c.loop-index.invariant.least

pub returns-clause-waits : goal.returns-clause-waits
returns-clause-waits c = c.loop-index.invariant.waits (omega arith)
