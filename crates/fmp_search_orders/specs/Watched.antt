-- Places of all orders with what is asked of every event from one on, and what is known of the orders that end so.
use Rattle.std.specs.Prelude.{◌≡◌, ℕ, ◌+◌, ◌*◌, ◌<◌, ◌≤◌, Bool, true, List, [], ◌∷◌, length, map, Option, option_map, is_some, slice_index_or, if◌then◌else◌}
use Rattle.fmp_codes.specs.declared.records.Record.{Record}
use Rattle.fmp_text_scripts.specs.Scripts.{Steps}
use Rattle.fmp_setup.specs.Setup.{Setup}
use Rattle.fmp_search.specs.Runs.{run}
use Rattle.fmp_search.specs.Forever.{EndsForEver, NoneForEver, test_of}
use Rattle.fmp_search_pattern.specs.Lasting.{Lasting, is_so}
use Rattle.fmp_search_orders.specs.declared.rules.Rules.{Rules}
use Rattle.fmp_search_orders.specs.Places.{Place, origin, after, records}
use Rattle.fmp_search_orders.specs.Lasting.{EndsSo, NoneEndsSo, step_test}

pub record Watched : Type 0 where
  pub place : Place
  pub lasting : List Lasting

abbrev pub watched : List Lasting → Place → Watched
watched lasting w = record { place = w; lasting = lasting }

abbrev pub watched_after : Watched → ℕ → Option Watched
watched_after w s = option_map (watched w.lasting) (after w.place s)

-- where all runs begin
abbrev pub origin_at : Watched → Watched
origin_at w = watched w.lasting (origin w.place.config w.place.scripts w.place.rules [])

-- the first of these as the lowest bit of a number
abbrev pub bits_of : List Bool → ℕ
bits_of [] = 0
bits_of (b ∷ bs) = (if b then 1 else 0) + 2 * bits_of bs

-- which of what is asked is so of the event of a step
abbrev pub watched_passes : Watched → ℕ → ℕ
watched_passes w s = bits_of (map (λ l. step_test (is_so l) w.place s) w.lasting)

-- what is asked under a number. Under one that is none it is what is always so
abbrev pub lasting_at : List Lasting → ℕ → Lasting
lasting_at lasting k = slice_index_or lasting k ([] ∷ [])

-- a run over these places ends so that one of what is asked stays
abbrev pub WatchedEnds : Setup → List Steps → Rules → List Lasting → ℕ → List ℕ → Type 0
WatchedEnds c scripts rules lasting k steps = EndsForEver watched_after (test_of watched_passes k) (watched lasting (origin c scripts rules [])) steps

-- what an answer over these places says of all orders
pub record WatchedAnswer (c : Setup) (scripts : List Steps) (rules : Rules) (lasting : List Lasting) : Type 0 where
  pub never : (k : ℕ) → k < length lasting → NoneForEver watched_after (test_of watched_passes k) (watched lasting (origin c scripts rules []))
      → NoneEndsSo c scripts rules (is_so (lasting_at lasting k))
  pub found : (k : ℕ) (steps : List ℕ) → k < length lasting → WatchedEnds c scripts rules lasting k steps →
      EndsSo c scripts rules (is_so (lasting_at lasting k)) (records (origin c scripts rules []) steps)
      × (length (records (origin c scripts rules []) steps) ≡ length steps)
  pub made : (k : ℕ) (steps : List ℕ) → WatchedEnds c scripts rules lasting k steps → is_some (run after (origin c scripts rules []) steps) ≡ true
  pub shortest : (n : ℕ) → ((k : ℕ) (others : List ℕ) → k < length lasting → WatchedEnds c scripts rules lasting k others → n ≤ length others) →
      (k : ℕ) (h : List Record) → k < length lasting → EndsSo c scripts rules (is_so (lasting_at lasting k)) h → n ≤ length h
