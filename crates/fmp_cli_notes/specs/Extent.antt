-- How far a search went that found no order, and why it went no farther.
use Rattle.std.specs.Prelude.{ℕ, nat_lt, nat_le, Bool, false, List, [], ◌++◌, Option, None, Some, if◌then◌else◌, codes, decimal}
use Rattle.fmp_search.specs.declared.extent.Extent.{Extent}
use Rattle.fmp_run_explore.specs.declared.finding.Finding.{Finding}
use Rattle.fmp_run_explore.specs.declared.finding.Finding.TheVariants as finding
use Rattle.fmp_cli.specs.declared.explore.ExploreRequest.{ExploreRequest}
use Rattle.fmp_cli.specs.declared.rooms.Memory.{Memory}
use Rattle.fmp_cli.specs.declared.rooms.Memory.TheVariants.{Given, Free, Unknown}
use Rattle.fmp_cli.specs.Rooms.{keeps_steps, places_within}
use Rattle.fmp_cli_notes.specs.declared.extent.Reach.{Reach}
use Rattle.fmp_cli_notes.specs.declared.extent.Reach.TheVariants as reach
use Rattle.fmp_cli_notes.specs.Lines.{head}

-- orders of so many lines were gone through: as many as was asked for, or as there was room for places
abbrev pub reach_within : ℕ → ℕ → Reach
reach_within lines turns = if nat_lt lines turns then reach.Room else reach.Part

abbrev pub reach_of : Finding → ℕ → Reach
reach_of finding.Never turns = reach.All
reach_of (finding.NotWithin n) turns = reach_within n turns
reach_of (finding.Wanting n) turns = reach.Wanting
reach_of (finding.Ended n) turns = reach.Part
reach_of finding.Shown turns = reach.Part

-- the memory that a command line gives has room for no more places than there is room for
abbrev pub by_memory : Memory → Bool → ℕ → Bool
by_memory (Given bytes) steps places = nat_le (places_within steps bytes) places
by_memory (Free bytes) steps places = false
by_memory Unknown steps places = false

abbrev pub by_free : Memory → List ℕ
by_free (Given bytes) = codes ", all for which there is room where the free memory is not known"
by_free (Free bytes) = codes ", all for which half of the free memory has room"
by_free Unknown = codes ", all for which there is room where the free memory is not known"

abbrev pub room_of : ExploreRequest → List ℕ
room_of r =
    if by_memory r.memory (keeps_steps r) r.bounds.places.count then codes ", all for which --memory has room"
    else (if r.says_places then codes ", all for which --places has room" else by_free r.memory)

abbrev pub places_of : Reach → List ℕ
places_of reach.All = codes "places gone through: "
places_of reach.Room = codes "places found: "
places_of reach.Wanting = codes "places found: "
places_of reach.Part = codes "places found: "

-- why no more
abbrev pub why : Reach → ExploreRequest → List ℕ
why reach.All r = codes ", all there are"
why reach.Room r = room_of r
why reach.Wanting r = codes ", all for which there was memory"
why reach.Part r = []

unfoldable pub extent_line : List ℕ → Extent → Reach → ExploreRequest → List ℕ
extent_line asked e reach r =
    head asked ++ places_of reach ++ decimal e.places ++ why reach r ++ codes "; lines to the farthest: " ++ decimal e.farthest ++ codes "\n"

-- that of a search which found no order; none where it found one
abbrev pub extent_note : List ℕ → Option Extent → Finding → ExploreRequest → List ℕ
extent_note asked (Some e) finding r = extent_line asked e (reach_of finding r.bounds.turns.count) r
extent_note asked None finding r = []
