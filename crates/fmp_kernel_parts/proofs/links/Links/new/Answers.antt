use Rattle.std.proofs.Common.{◌≡◌, ℕ, ◌-◌, ◌<◌, ◌≤◌, List, [], length, replicate, arith}
use Rattle.std.specs.Prelude.{slice_index}
use Rattle.std.proofs.lemmas.List.{length-replicate}
use Rattle.fmp_codes.proofs.Counters.{zeros}
use Rattle.fmp_kernel_parts.specs.Rings.{IsSound}
use Rattle.fmp_kernel_parts.proofs.Soundness.{sound_new, lists_are, settled}
use Rattle.fmp_kernel_parts.proofs.links.Links.new.Goals as goal

rings : (items nodes i : ℕ) (n p : List ℕ) → items ≤ nodes → nodes ≤ i → length n ≡ nodes → length p ≡ nodes →
    ((k : ℕ) → k < i → slice_index n k ≡ k) → ((k : ℕ) → k < i → slice_index p k ≡ k) → IsSound items n p (replicate items 0) (replicate (nodes - items) [])
rings items nodes i n p h all ln lp fn fp =
    sound_new items (nodes - items) n p (replicate items 0) (omega (arith, ln, h)) (omega (arith, lp, h)) (length-replicate items 0)
    (λ k l. fn k (omega (arith, l, h, all))) (λ k l. fp k (omega (arith, l, h, all))) (zeros items)

pub invariant_of-result : goal.invariant_of-result
invariant_of-result g c =
    let v = c.loop-i.invariant in (
      c.requires.enough,
      c.requires.nodes_fit,
      settled (rings g.row.ITEMS g.row.NODES c.loop-i.i c.loop-i.next c.loop-i.prev c.requires.enough c.loop-i-test.false v.next_count v.prev_count v.next v.prev),
    )

pub returns : goal.returns
returns g c =
    let v = c.loop-i.invariant in
    lists_are (rings g.row.ITEMS g.row.NODES c.loop-i.i c.loop-i.next c.loop-i.prev c.requires.enough c.loop-i-test.false v.next_count v.prev_count v.next v.prev)
