-- The numbers of the model: each word changes only those of its task, and the next one.
use Rattle.std.proofs.Common.{ℕ, ◌+◌, refl}
use Rattle.std.specs.Prelude.{slice_index_or}
use Rattle.fmp_codes.specs.declared.numbers.Task.{Task}
use Rattle.fmp_rules.specs.World.{with_item}
use Rattle.fmp_rules.specs.Arrivals.{Arrivals, numbered}
use Rattle.fmp_law_footprint.specs.Cells.{Cell, SpotOf, Arriving, at}
use Rattle.fmp_law_footprint.specs.Footprints.{Spares, IsLocal}
use Rattle.fmp_law_footprint.specs.Numbers.{Numbers, numbers, Anywhere}
use Rattle.fmp_law_footprint.proofs.Moves.{seen_but}

module _ (S : Cell → Type 0) (next : (n : ℕ) → S (SpotOf n) → S Arriving) where
  spares_ready : (q : Arrivals) (t : Task) (n : ℕ) → S (SpotOf (at t))
      → Spares Numbers numbers S Anywhere q (record q { ready = with_item q.ready t.number n; next = q.next + 1 })
  spares_ready q t n spot (SpotOf m) off = λ i. (seen_but S SpotOf (λ (x : ℕ). x) 0 q.ready (at t) n (λ none. absurd (none spot)) m off i, slice_index_or q.begun m 0)
  spares_ready q t n spot Arriving off = absurd (off (next (at t) spot))
  spares_ready q t n spot _ off = refl

  spares_begun : (q : Arrivals) (t : Task) (n : ℕ) → S (SpotOf (at t))
      → Spares Numbers numbers S Anywhere q (record q { begun = with_item q.begun t.number n; next = q.next + 1 })
  spares_begun q t n spot (SpotOf m) off = λ i. (slice_index_or q.ready m 0, seen_but S SpotOf (λ (x : ℕ). x) 0 q.begun (at t) n (λ none. absurd (none spot)) m off i)
  spares_begun q t n spot Arriving off = absurd (off (next (at t) spot))
  spares_begun q t n spot _ off = refl

  pub numbered_is_local : IsLocal Numbers numbers S Anywhere numbered
  unfolding numbered
  numbered_is_local = record {
    put_last = λ q r t spot ready i. (tt, spares_ready q t q.next spot);
    take_out = λ q r t spot ready i. (tt, λ c off. refl);
    join = λ q o r left t spot queue timed i. (tt, spares_begun q t q.next spot);
    leave = λ q r t spot queue i. (tt, λ c off. refl);
  }
