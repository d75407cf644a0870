use Rattle.std.proofs.Common.{◌≡◌, ◌≤◌, length, drop, map}
use Rattle.fmp_search_pattern.specs.Lasting.{is_so}
use Rattle.fmp_search_orders.specs.Watched.{bits_of}
use Rattle.fmp_search_kernel.specs.Seen.{seen_of}
use Rattle.fmp_search_kernel.proofs.sights.bits_at.Given as goal

abbrev pub decreases-loop-at : goal.decreases-loop-at
decreases-loop-at l = l.at

abbrev pub invariant-loop-at : goal.invariant-loop-at
invariant-loop-at l = record {
  within : l.at ≤ length l.lasting;
  bits : l.bits ≡ bits_of (map (λ x. is_so x (seen_of l.event)) (drop l.at l.lasting));
}
