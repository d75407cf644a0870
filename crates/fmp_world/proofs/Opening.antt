-- The seats of a new world.
use Rattle.std.proofs.Common.{◌≡◌, ℕ, ◌+◌, ◌<◌, ◌∙◌, List, [], ◌∷◌, ◌++◌, length, slice_index_or, sym, subst, arith, below_more, length-append}
use Rattle.std.proofs.Math.Seq.{get_or-append_seam}
use Rattle.std.proofs.Math.ListN.{get_or-append}
use Rattle.fmp_world.specs.Turns.{IsOpening, IsFresh}
use Rattle.fmp_world.specs.Views.{Seat}

seam : (seats : List Seat) (s : Seat) (n : ℕ) (d : Seat) → length seats ≡ n → slice_index_or (seats ++ s ∷ []) n d ≡ s
seam seats s n d is = rw (sym is) (get_or-append_seam seats s [] d)

-- one seat more
pub seats_more : (room : ℕ) (seats : List Seat) (s : Seat) (n : ℕ) → IsOpening room seats n → IsFresh room n s → IsOpening room (seats ++ s ∷ []) (n + 1)
seats_more room seats s n all fresh = (
  length-append seats (s ∷ []) ∙ omega (arith, all.0),
  λ k d. below_more (λ i. IsFresh room i (slice_index_or (seats ++ s ∷ []) i d)) n
      (λ i small. let inside : i < length seats = omega (arith, all.0) in subst (λ (x : Seat). IsFresh room i x) (sym (get_or-append seats (s ∷ []) d i inside)) (all.1 i d small))
      (subst (λ (x : Seat). IsFresh room n x) (sym (seam seats s n d all.0)) fresh)
      k,
)
