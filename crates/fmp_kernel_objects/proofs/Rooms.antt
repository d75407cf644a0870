-- When data queues have places for what is in others.
use Rattle.std.proofs.Common.{◌≡◌, ℕ, ◌<◌, ◌≤◌, List, length, map, slice_index_or, sym, ap, ◌∙◌, arith}
use Rattle.std.proofs.lemmas.List.{length-map}
use Rattle.fmp_names.proofs.Same.{view_at}
use Rattle.fmp_setup.specs.declared.setup.DataQueueSetup.{DataQueueSetup}
use Rattle.fmp_dtq.specs.DataQueue.{DataQueue}

-- data queues of the same setups are as many, with places for as many values
pub same_rooms : (qs rs : List DataQueue) → map (λ (q : DataQueue). q.setup) qs ≡ map (λ (q : DataQueue). q.setup) rs →
    (length qs ≡ length rs) × ((k : ℕ) (a b : DataQueue) → k < length rs → (slice_index_or rs k b).setup.capacity ≤ (slice_index_or qs k a).setup.capacity)
same_rooms qs rs e =
    let long : length qs ≡ length rs = sym (length-map qs (λ (q : DataQueue). q.setup)) ∙ ap length e ∙ length-map rs (λ (q : DataQueue). q.setup) in (
      long,
      λ k a b h.
          let same = ap (λ (s : DataQueueSetup). s.capacity) (view_at (λ (q : DataQueue). q.setup) qs rs k a b (omega (arith, long, h)) h e) in
          omega (arith, same),
    )
