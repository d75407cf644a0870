-- Questions, and when their moments are there. A question is a row of steps, each with a moment that is waited for, and one that must not
-- come before it.
use Rattle.std.specs.Prelude.{ℕ, Bool, true, false, not, List, Option, None, Some, slice_get}
use Rattle.std.specs.List.{count_by}
use Rattle.fmp_search_pattern.specs.declared.question.Step.{Step}
use Rattle.fmp_search_pattern.specs.Items.{Item, has_part}
use Rattle.fmp_search_pattern.specs.Matching.{any}
use Rattle.fmp_search_pattern.specs.Sights.{Sight}

-- a moment is where one of its parts is
abbrev pub has_moment : Sight → List (List Item) → Bool
has_moment sight moment = any (has_part sight) moment

-- the moment of a step is there
abbrev pub is_met : Sight → Option Step → Bool
is_met sight None = false
is_met sight (Some s) = has_moment sight s.moment

abbrev pub has_unwanted : Sight → Option (List (List Item)) → Bool
has_unwanted sight None = false
has_unwanted sight (Some moment) = has_moment sight moment

-- what must not come before the moment of a step is there
abbrev pub is_barred : Sight → Option Step → Bool
is_barred sight None = false
is_barred sight (Some s) = has_unwanted sight s.without

-- an event may be marked as the moment of the step that is looked for, or be passed by without a mark
unfoldable pub allows : List Step → ℕ → Bool → Sight → Bool
allows question seen true sight = is_met sight (slice_get question seen)
allows question seen false sight = not (is_barred sight (slice_get question seen))

-- how many steps of a question were seen, where events were marked so
abbrev pub seen : List Bool → ℕ
seen marks = count_by (λ m. m) marks
