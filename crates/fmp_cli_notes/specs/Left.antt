-- Without which things fewest places of a search are left, and in which line that is told.
use Rattle.std.specs.Prelude.{ℕ, zero, suc, ◌+◌, ◌-◌, nat_lt, Bool, true, false, List, [], ◌∷◌, ◌++◌, length, take, slice_index, Option, None, Some, if◌then◌else◌, codes, decimal}
use Rattle.std.specs.List.Sorted.{IsPermutation, IsSorted}
use Rattle.std.specs.Ordering.{nat_cmp, ordering_then}
use Rattle.fmp_cli_notes.specs.declared.extent.Reach.{Reach}
use Rattle.fmp_cli_notes.specs.declared.extent.Reach.TheVariants as reach
use Rattle.fmp_cli_notes.specs.Extent.{reach_within}
use Rattle.fmp_cli_notes.specs.Lines.{head}
use Rattle.fmp_cli_notes.specs.Unmade.{name_text}
use Rattle.fmp_codes.specs.declared.kinds.NameKind.TheVariants.{Object}
use Rattle.fmp_codes.specs.declared.kinds.ObjectKind.{ObjectKind}
use Rattle.fmp_codes.specs.declared.kinds.ObjectKind.TheVariants.{Alarm, Cyclic, DataQueue, Eventflag, Pool, Semaphore, Task}
use Rattle.fmp_names.specs.Names.{NameLists}
use Rattle.fmp_names.specs.Names.{name_of as named_of}
use Rattle.fmp_out.specs.Putting.{Adds, Putting}
use Rattle.fmp_run_explore.specs.Left.{IsLeft}
use Rattle.fmp_run_explore.specs.Searched.{Searched}
use Rattle.fmp_run_forever.specs.declared.staying.Staying.{Staying}
use Rattle.fmp_run_forever.specs.declared.staying.Staying.TheVariants as staying
use Rattle.fmp_search_pattern.specs.declared.question.Step.{Step}
use Rattle.fmp_run_explore.specs.declared.left.Left.{Left}
use Rattle.fmp_search.specs.declared.extent.Extent.{Extent}
use Rattle.fmp_search_orders.specs.Places.{origin}
use Rattle.fmp_setup.specs.Setup.{Setup}

-- there was no room, or no memory, for more places
abbrev pub is_short : Reach → Bool
is_short reach.All = false
is_short reach.Room = true
is_short reach.Wanting = true
is_short reach.Part = false

-- a search ended for that, and not where all places were gone through, where it was to end, or where it found an order
abbrev pub is_held_up : Option Extent → Reach → Bool
is_held_up None why = false
is_held_up (Some e) why = is_short why

-- why one went no farther that asked what stays for ever
abbrev pub reach_of_staying : Staying → ℕ → Reach
reach_of_staying (staying.NotWithin lines) turns = reach_within lines turns
reach_of_staying (staying.Wanting lines) turns = reach.Wanting
reach_of_staying staying.Never turns = reach.All
reach_of_staying (staying.Ended lines) turns = reach.Part
reach_of_staying (staying.Shortest number line) turns = reach.Part
reach_of_staying (staying.Found number line) turns = reach.Part

-- a question that no order shows, since no moment is one of none
abbrev pub nothing : List Step
nothing = record { moment = []; without = None } ∷ []

-- ---- the things without which fewer places are left

-- of the first n things, each behind how many places are left without it
unfoldable pub fewer : Left → ℕ → List (ℕ × ℕ)
fewer l zero = []
fewer l (suc n) = fewer l n ++ (if nat_lt (slice_index l.without.items n) l.places then (slice_index l.without.items n, n) ∷ [] else [])

-- all of them, by how many places are left, and of things without which equally many are, by the number of the thing
pub record AreFewest (l : Left) (things : List (ℕ × ℕ)) : Type 0 where
  pub all : IsPermutation (fewer l (length l.without.items)) things
  pub sorted : IsSorted (λ (a b : ℕ × ℕ). ordering_then (nat_cmp a.0 b.0) (nat_cmp a.1 b.1)) things

-- ---- the line

-- how many things there are of each kind, in the order in which `Left` counts them
abbrev pub kinds_of : Setup → List (ObjectKind × ℕ)
kinds_of c =
    (Alarm, length c.alarms) ∷ (Cyclic, length c.cyclics) ∷ (Task, length c.tasks) ∷ (Pool, length c.pools) ∷ (Eventflag, length c.eventflags)
    ∷ (Semaphore, length c.semaphores) ∷ (DataQueue, length c.data_queues) ∷ []

abbrev pub name_among : NameLists → List (ObjectKind × ℕ) → ℕ → List ℕ
name_among names [] n = codes "?"
name_among names (kind ∷ kinds) n = if nat_lt n kind.1 then name_text (named_of names (Object kind.0) (n + 1)) else name_among names kinds (n - kind.1)

unfoldable pub name_of : Setup → ℕ → List ℕ
name_of c n = name_among c.names (kinds_of c) n

abbrev pub things_text : Setup → List ℕ → List (ℕ × ℕ) → List ℕ
things_text c lead [] = []
things_text c lead (thing ∷ things) = lead ++ name_of c thing.1 ++ codes " " ++ decimal thing.0 ++ things_text c (codes ", ") things

unfoldable pub left_line : List ℕ → Setup → ℕ → List (ℕ × ℕ) → List ℕ
left_line asked c places things =
    head asked ++ codes "places left where one thing is not looked at, of the first " ++ decimal places ++ things_text c (codes ": ") things
    ++ codes "\n"

-- of the first five of them, where there are any
abbrev pub left_note : List ℕ → Setup → ℕ → List (ℕ × ℕ) → List ℕ
left_note asked c places [] = []
left_note asked c places (thing ∷ things) = left_line asked c places (take 5 (thing ∷ things))

-- these are counts of some first places of a search
abbrev pub IsLeftOf : Searched → ℕ → Left → Type 0
IsLeftOf s turns l = IsLeft (origin s.config s.scripts s.rules s.question) turns l

-- what is told by them
pub record TellsLeft (asked : List ℕ) (s : Searched) (turns : ℕ) (old new : Putting) : Type 0 where
  pub left : Left
  pub counts : IsLeftOf s turns left
  pub things : List (ℕ × ℕ)
  pub fewest : AreFewest left things
  pub told : Adds (left_note asked s.config left.places things) old new
