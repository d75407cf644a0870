use Rattle.std.proofs.Common.{map, refl, sym, ap, ◌∙◌, arith}
use Rattle.fmp_time.specs.Times.{Times, lowered_on}
use Rattle.fmp_time.proofs.Effects.{times_same}
use Rattle.fmp_kernel_assigned.proofs.Falling.{below_none, below_more, below_all}
use Rattle.fmp_kernel_assigned.proofs.counting.lower_all.Goals as goal

pub loop-index-init : goal.loop-index-init
loop-index-init c = record { left = sym (below_none c.args.timers.now.left); waits = refl }

pub loop-index-preserved : goal.loop-index-preserved
loop-index-preserved c = record {
  left = ap (λ (m : Times). m.left) c.lower.ensures ∙ ap (map (lowered_on c.from_index.result)) c.loop-index.invariant.left
      ∙ below_more c.loop-index.index c.from_index.result c.args.timers.now.left c.from_index.ensures.number;
  waits = ap (λ (m : Times). m.waits) c.lower.ensures ∙ c.loop-index.invariant.waits;
}

pub returns : goal.returns
returns c = times_same _ _ _ _ (c.loop-index.invariant.left ∙ below_all c.loop-index.index c.args.timers.now.left (omega arith)) c.loop-index.invariant.waits
