-- Bounds that were moved to what has a mark.
use Rattle.std.specs.Prelude.{◌≡◌, ◌⊎◌, ℕ, ◌+◌, ◌*◌, ◌<◌, Bool, true, false, List, length, Some, slice_get, slice_index}
use Rattle.fmp_run_most.specs.declared.figure.Figure.{Figure}
use Rattle.fmp_run_most.specs.declared.figure.Measure.{Measure}
use Rattle.fmp_run_most.specs.Figures.{is_beyond}
use Rattle.fmp_run_most.specs.Gauged.{span}

-- the figure at a place was met with this number
abbrev pub IsMarked : List Bool → ℕ → ℕ → Type 0
IsMarked marks k n = slice_get marks (k * span + n) ≡ Some true

-- of a bound and the numbers of the figure at a place that have a mark, so many of them, the one beyond which none is
pub record IsExtremeOf (m : Measure) (bound : ℕ) (marks : List Bool) (k count n : ℕ) : Type 0 where
  pub one : (n ≡ bound) ⊎ ((n < span) × IsMarked marks k n)
  pub kept : is_beyond m n bound ≡ false
  pub all : (v : ℕ) → v < count → IsMarked marks k v → is_beyond m n v ≡ false

abbrev pub IsExtreme : Measure → ℕ → List Bool → ℕ → ℕ → Type 0
IsExtreme m bound marks k n = IsExtremeOf m bound marks k span n

-- and so for each figure
pub record AreRaised (figures : List Figure) (bounds : List ℕ) (marks : List Bool) (raised : List ℕ) : Type 0 where
  pub as_many : length raised ≡ length bounds
  pub each : (k : ℕ) (f : Figure) → slice_get figures k ≡ Some f → IsExtreme f.measure (slice_index bounds k) marks k (slice_index raised k)
