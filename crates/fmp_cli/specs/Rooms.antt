-- For how many places a search has room.
use Rattle.std.specs.Prelude.{ℕ, ◌/◌, ◌&&◌, ◌||◌, not, is_some, min, max, Bool, true, false, Option, None, Some}
use Rattle.fmp_search_question.specs.Lasting.{is_lasting}
use Rattle.fmp_cli.specs.declared.rooms.Memory.{Memory}
use Rattle.fmp_cli.specs.declared.rooms.Memory.TheVariants as memory
use Rattle.fmp_cli.specs.declared.explore.ExploreRequest.{ExploreRequest}

-- how many bytes are reckoned for a place, where all steps are kept, too, or are not
abbrev pub bytes_of_place : Bool → ℕ
bytes_of_place false = 96
bytes_of_place true = 240

-- so many bytes hold as many places as they have room for: always the one where all runs begin, and no more than there may be
abbrev pub places_within : Bool → ℕ → ℕ
places_within steps bytes = max 1 (min (bytes / bytes_of_place steps) 100000000)

-- all steps are kept where it is asked what stays for ever, and one of many questions may ask that; how far everything goes is told without
abbrev pub keeps_steps : ExploreRequest → Bool
keeps_steps r = not r.most && (is_some r.questions || is_lasting r.question.now)

-- the memory of a search, where so many bytes are free and nothing else is said
abbrev pub with_free : Memory → Option ℕ → Memory
with_free (memory.Given bytes) free = memory.Given bytes
with_free (memory.Free bytes) free = memory.Free bytes
with_free memory.Unknown None = memory.Unknown
with_free memory.Unknown (Some bytes) = memory.Free bytes

-- how many places it holds: half of what is free is for them
abbrev pub places_in : Bool → Memory → ℕ
places_in steps (memory.Given bytes) = places_within steps bytes
places_in steps (memory.Free bytes) = places_within steps (bytes / 2)
places_in steps memory.Unknown = 10000000

-- a number of places is a limit besides a memory that is given, and else the only one
abbrev pub limited : Bool → ℕ → Memory → ℕ
limited steps places (memory.Given bytes) = min places (places_within steps bytes)
limited steps places (memory.Free bytes) = places
limited steps places memory.Unknown = places

-- for how many places there is room, where a number of them is said or not
abbrev pub room_in : Bool → Bool → ℕ → Memory → ℕ
room_in steps false places m = places_in steps m
room_in steps true places m = limited steps places m

-- the room of a request, where so many bytes are free
abbrev pub room_of : ExploreRequest → Option ℕ → ℕ
room_of r free = room_in (keeps_steps r) r.says_places r.bounds.places.count (with_free r.memory free)
