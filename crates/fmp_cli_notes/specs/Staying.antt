-- What is told of something that stays for ever.
use Rattle.std.specs.Prelude.{ℕ, List, [], ◌∷◌, ◌++◌, Option, None, Some, slice_get, codes, decimal}
use Rattle.fmp_cli.specs.declared.explore.ExploreRequest.{ExploreRequest}
use Rattle.fmp_run_forever.specs.declared.staying.Stayed.{Stayed}
use Rattle.fmp_run_forever.specs.declared.staying.Staying.{Staying}
use Rattle.fmp_run_forever.specs.declared.staying.Staying.TheVariants as staying
use Rattle.fmp_search_pattern.specs.Items.{Item}
use Rattle.fmp_cli_notes.specs.declared.extent.Reach.{Reach}
use Rattle.fmp_cli_notes.specs.declared.extent.Reach.TheVariants as reach
use Rattle.fmp_cli_notes.specs.Extent.{extent_line, reach_within}
use Rattle.fmp_cli_notes.specs.Patterns.{items_text}
use Rattle.fmp_cli_notes.specs.Unmade.{unmade_lines}

-- what is to stay, as a question has it: the items of its only part
abbrev pub lasting_text : List (List Item) → List ℕ
lasting_text [] = []
lasting_text (part ∷ parts) = items_text part

-- from which line of the trace on it stays
unfoldable pub line_from : List (List Item) → ℕ → List ℕ
line_from lasting line = codes "fmpsim: from line " ++ decimal line ++ codes " on " ++ lasting_text lasting ++ codes " for ever" ++ codes "\n"

abbrev pub from_line : Option (List (List Item)) → ℕ → List ℕ
from_line (Some lasting) line = line_from lasting line
from_line None line = []

-- why nothing is known to stay: how far the search went, and where it went through all places, which calls of the scripts no order makes
abbrev pub extent_of : List ℕ → Stayed → Reach → ExploreRequest → List ℕ
extent_of asked s why r = extent_line asked s.extent why r

abbrev pub unmade_of : List ℕ → Stayed → ExploreRequest → List ℕ
unmade_of asked s r = unmade_lines asked s.asked.config s.asked.scripts s.met r.bounds.turns.count

abbrev pub told_of : List ℕ → Stayed → ExploreRequest → Staying → List ℕ
told_of asked s r (staying.Shortest number line) = from_line (slice_get s.asked.question.items number) line
told_of asked s r (staying.Found number line) = from_line (slice_get s.asked.question.items number) line ++ codes "fmpsim: a shorter one is not ruled out\n"
told_of asked s r staying.Never = extent_of asked s reach.All r ++ unmade_of asked s r
told_of asked s r (staying.NotWithin lines) = extent_of asked s (reach_within lines r.bounds.turns.count) r
told_of asked s r (staying.Wanting lines) = extent_of asked s reach.Wanting r
told_of asked s r (staying.Ended lines) = extent_of asked s reach.Part r

abbrev pub staying_note : List ℕ → Stayed → ExploreRequest → List ℕ
staying_note asked s r = told_of asked s r s.staying
