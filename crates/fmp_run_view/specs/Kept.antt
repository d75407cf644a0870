-- What is kept of a player of events.
use Rattle.std.specs.Prelude.{ℕ, ◌≤◌, List, slice_index_or}
use Rattle.fmp_rules.specs.Arrivals.{State, numbered}
use Rattle.fmp_law_safety.specs.Safe.{Safe}

pub record Kept (w : State) (events : ℕ) (ticks : List ℕ) : Type 0 where
  pub safe : Safe numbered w
  -- no processor took more ticks than there were events
  pub ticks_are_events : (k : ℕ) → slice_index_or ticks k 0 ≤ events
