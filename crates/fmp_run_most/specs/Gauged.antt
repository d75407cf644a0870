-- Which of figures is beyond its bound in a state, and places of all orders with it.
use Rattle.std.specs.Prelude.{ℕ, ◌+◌, ◌*◌, List, [], ◌∷◌, slice_index, if◌then◌else◌}
use Rattle.fmp_rules.specs.World.{World}
use Rattle.fmp_kernel_order.specs.Queues.{Queues}
use Rattle.fmp_search_orders.specs.Places.{Place}
use Rattle.fmp_search_walks.specs.Metered.{Metered, metered}
use Rattle.fmp_run_most.specs.declared.figure.Figure.{Figure}
use Rattle.fmp_run_most.specs.Figures.{is_beyond, value}

-- a number for each figure with each of its numbers
abbrev pub span : ℕ
span = 65536

module _ {Q : Type 0} (w : World Q) where
  -- that of the first figure that is beyond its bound in a state, where the first of them has this place among all
  abbrev pub first_beyond : List Figure → List ℕ → ℕ → ℕ
  first_beyond [] bs k = k * span
  first_beyond (f ∷ fs) bs k = if is_beyond f.measure (slice_index bs k) (value w f) then k * span + value w f else first_beyond fs bs (k + 1)

-- the number that is metered of a state
abbrev pub beyond : {Q : Type 0} → List Figure → List ℕ → World Q → ℕ
beyond fs bs w = first_beyond w fs bs 0

abbrev pub gauged : List Figure → List ℕ → Place → Metered
gauged fs bs = metered (beyond {Q = Queues} fs bs)
