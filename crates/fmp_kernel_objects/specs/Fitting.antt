-- When objects have the memory to become as others are.
use Rattle.std.specs.Prelude.{◌≡◌, ℕ, ◌<◌, List, length, slice_index_or}

-- each of as many
pub record AreFitting {X : Type 0} (fits : X → X → Type 0) (xs ys : List X) : Type 0 where
  pub long : length xs ≡ length ys
  pub each : (k : ℕ) (a b : X) → k < length ys → fits (slice_index_or xs k a) (slice_index_or ys k b)
