-- Why not all orders of so many lines are known.
use Rattle.std.specs.Prelude.{◌≡◌, ◌⊎◌, ℕ, Bool, true, List, []}
use Rattle.fmp_setup.specs.Setup.{Setup}
use Rattle.fmp_text_scripts.specs.Scripts.{Steps}
use Rattle.fmp_search.specs.Meeting.{IsFull}
use Rattle.fmp_search_orders.specs.declared.rules.Rules.{Rules}
use Rattle.fmp_search_orders.specs.Places.{after, origin}

-- the room for places was used up by orders of fewer lines, or who may end the search did
abbrev pub IsNotKnown : Setup → List Steps → Rules → ℕ → ℕ → Bool → Type 0
IsNotKnown c scripts rules turns room over = IsFull after (origin c scripts rules []) turns room ⊎ (over ≡ true)
