-- What one knows who notes numbers of states.
use Rattle.std.proofs.Common.{◌≡◌, ◌∙◌, ℕ, refl, ap}
use Rattle.fmp_rules.specs.World.{World}
use Rattle.fmp_kernel_order.specs.Queues.{Queues}
use Rattle.fmp_interned.specs.Keys.{AreKeptBy, IsKeyOf}
use Rattle.fmp_search_kernel.specs.Keys.{IsPlaceKey, KeptPlaces}
use Rattle.fmp_search_kernel.specs.Walked.{origin_of}
use Rattle.fmp_search_orders.specs.Places.{Place}
use Rattle.fmp_search_walks.specs.Metered.{Metered, metered}

module _ (f : World Queues → ℕ) (w : Place) where
  -- keys of places with the number that each state has
  abbrev pub MeteredKey : KeptPlaces → ℕ → Metered → Type 0
  MeteredKey t k g = (g.number ≡ f) × IsPlaceKey (origin_of w) t k g.place

  pub place_metered : (g : Metered) (r : Place) → g.number ≡ f → g.place ≡ r → g ≡ metered f r
  place_metered g r number is = ap (λ (x : World Queues → ℕ). metered x g.place) number ∙ ap (metered f) is

  pub is_key_metered : (t : KeptPlaces) (k : ℕ) → IsKeyOf (IsPlaceKey (origin_of w) t) w k → IsKeyOf (MeteredKey t) (metered f w) k
  is_key_metered t k key = record {
    there = (refl, key.there);
    one = λ j g. key.one j g.1;
    only = λ r g. place_metered r w g.0 (key.only r.place g.1);
  }

  pub kept_metered : (old new : KeptPlaces) → AreKeptBy (IsPlaceKey (origin_of w) old) (IsPlaceKey (origin_of w) new) → AreKeptBy (MeteredKey old) (MeteredKey new)
  kept_metered old new kept k r g = (g.0, kept k r.place g.1)
