use Rattle.fmp_rules.specs.World.{World}
use Rattle.fmp_kernel_order.specs.Queues.{Queues}
use Rattle.fmp_law_footprint.specs.Footprints.{Closed, Within}
use Rattle.fmp_law_lists.proofs.Standing.{lists_stand_inside}
use Rattle.fmp_law_lists.proofs.footprints.standing_lists_are_good.Goals as goal
use Rattle.std.proofs.Common.{subst}

pub returns : goal.returns
returns c = λ f k m s closed. record {
  closed = closed;
  inside = lists_stand_inside (Within f) k.order m s.order (subst (λ (x : World Queues). Closed (Within f) x.tasks x.waits_left) s.same closed);
}
