-- How many places of a search are left where one thing is not looked at.
use Rattle.std.specs.Prelude.{◌≡◌, ℕ, List, length}
use Rattle.fmp_search.specs.First.{AreFirst}
use Rattle.fmp_search_kernel.specs.Keys.{IsPlaceKey, KeptPlaces}
use Rattle.fmp_search_kernel.specs.Weights.{AreLeftEach}
use Rattle.fmp_search_orders.specs.Places.{Place, after}

-- these are the keys of the first places from where all runs begin
abbrev pub AreFirstFrom : Place → ℕ → KeptPlaces → List ℕ → Type 0
AreFirstFrom o turns kept keys = AreFirst after (IsPlaceKey o kept) o turns keys

-- So many places were looked at, which by these keys are the first from where all runs begin, and so many are left without each thing.
pub record AreLeftWithout (o : Place) (turns places : ℕ) (without : List ℕ) : Type 0 where
  pub kept : KeptPlaces
  pub keys : List ℕ
  pub first : AreFirstFrom o turns kept keys
  pub count : places ≡ length keys
  pub each : AreLeftEach o kept keys without
