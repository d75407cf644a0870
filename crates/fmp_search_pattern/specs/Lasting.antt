-- What a question may ask of every event from one on: that a moment is there.
use Rattle.std.specs.Prelude.{Bool, List}
use Rattle.fmp_search_pattern.specs.Items.{Item}
use Rattle.fmp_search_pattern.specs.Questions.{has_moment}
use Rattle.fmp_search_pattern.specs.Sights.{Sight}

abbrev pub Lasting : Type 0
Lasting = List (List Item)

-- it is so of an event
abbrev pub is_so : Lasting → Sight → Bool
is_so l s = has_moment s l
