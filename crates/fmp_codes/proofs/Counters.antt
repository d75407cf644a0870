-- Lists of counters: all zero at first, and one set.
use Rattle.std.proofs.Common.{◌≡◌, ◌≢◌, ℕ, zero, suc, ◌<◌, List, length, replicate, refl, arith}
use Rattle.std.specs.Prelude.{slice_index, slice_set}
use Rattle.std.proofs.lemmas.List.{get_or-set_same, get_or-set_other}

pub zeros : (n i : ℕ) → slice_index (replicate n 0) i ≡ 0
zeros zero i = refl
zeros (suc n) zero = refl
zeros (suc n) (suc i) = zeros n i

pub set_here : (xs : List ℕ) (at k n : ℕ) → k ≡ at → k < length xs → slice_index (slice_set xs at n) k ≡ n
set_here xs at k n is small = rw is (get_or-set_same xs at n 0 (omega (arith, is, small)))

pub set_there : (xs : List ℕ) (at k n : ℕ) → k ≢ at → slice_index (slice_set xs at n) k ≡ slice_index xs k
set_there xs at k n other = get_or-set_other xs at k n 0 other
