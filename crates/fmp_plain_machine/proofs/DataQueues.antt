-- A look-up in all data queues, and a change of one.
use Rattle.std.proofs.Common.{◌≡◌, ◌∷◌, ℕ, ℤ, zero, suc, List, [], get_or, map, set, refl}
use Rattle.std.proofs.lemmas.List.{map-set}
use Rattle.std.proofs.Math.Seq.{map-set_same}
use Rattle.fmp_plain_machine.specs.DataQueues.{Queue, all_of, no_queue}

-- a look-up in a list of which each item is made of another
pub mapped_or : {X Y : Type 0} (f : X → Y) (xs : List X) (i : ℕ) (d : X) → get_or (map f xs) i (f d) ≡ f (get_or xs i d)
mapped_or f [] i d = refl
mapped_or f (x ∷ xs) zero d = refl
mapped_or f (x ∷ xs) (suc i) d = mapped_or f xs i d

pub values_at : (qs : List Queue) (i : ℕ) → get_or (all_of qs).contents i [] ≡ (get_or qs i no_queue).values
values_at qs i = mapped_or (λ q. q.values) qs i no_queue

-- other values in one of them
pub changed : (qs : List Queue) (i : ℕ) (vs : List ℤ) →
    all_of (set qs i (record (get_or qs i no_queue) { values = vs })) ≡ record (all_of qs) { contents = set (all_of qs).contents i vs }
changed qs i vs =
    let now = set qs i (record (get_or qs i no_queue) { values = vs }) in
    rw (
      map-set_same (λ (q : Queue). q.setup) qs i (record (get_or qs i no_queue) { values = vs }) no_queue refl,
      map-set (λ (q : Queue). q.values) qs i (record (get_or qs i no_queue) { values = vs }),
    )
