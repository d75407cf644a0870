-- How many places are left where one thing is not looked at.
use Rattle.std.specs.Prelude.{◌≡◌, ℕ, ◌+◌, ◌-◌, ◌*◌, ◌/◌, ◌<◌, List, [], ◌∷◌, ◌++◌, length, nat_eq, nat_lt, set, slice_get, slice_index, Some, if◌then◌else◌}
use Rattle.fmp_interned.specs.Values.{AreDistinct}
use Rattle.fmp_kernel_packed.specs.Kept.{ArePartsOnce, KeptParts}
use Rattle.fmp_kernel_packed.specs.Told.{things_of, times_of, ArePartsOf}
use Rattle.fmp_search_kernel.specs.declared.weights.Spot.{Spot}
use Rattle.fmp_search_kernel.specs.Keys.{words_of, IsPlaceKey, KeptPlaces}
use Rattle.fmp_search_orders.specs.Places.{Place}
use Rattle.fmp_setup.specs.Setup.{Setup}

-- what tells a place: the numbers of its kernel's parts, of what is beside the kernel, and of what counts in it
pub record Told : Type 0 where
  pub parts : List ℕ
  pub words : List ℕ
  pub times : List ℕ

-- this tells a place by parts that are kept
pub record Tells (kept : KeptParts) (p : Place) (t : Told) : Type 0 where
  pub parts : ArePartsOf kept p.machine t.parts
  pub words : t.words ≡ words_of p 0
  pub times : t.times ≡ times_of p.machine

-- three numbers tell what is left of each item that counts: those of this one are left out
abbrev pub untimed : ℕ → List ℕ → List ℕ
untimed item [] = []
untimed item (w ∷ []) = []
untimed item (w ∷ low ∷ []) = []
untimed item (w ∷ low ∷ high ∷ ws) = if nat_eq (w / 8) item then untimed item ws else w ∷ low ∷ high ∷ untimed item ws

-- what tells a place where a thing is not looked at, whose numbers stand here
abbrev pub without : Spot → Told → List ℕ
without s t = set t.parts s.part 0 ++ (set t.words s.position 0 ++ untimed s.item t.times)

-- Where the numbers of a thing stand, of so many alarms, cyclic handlers and tasks, where the positions of tasks begin after so many words: each has its part.
-- A task has its position, too, and others share the number that stands last, which is 0. The items that count are first the tasks, from 64 on the alarms
-- and from 96 on the cyclic handlers, and an object is none of them
abbrev pub spot_at : ℕ → ℕ → ℕ → ℕ → ℕ → Spot
spot_at alarms cyclics tasks before k =
    let task = k - (alarms + cyclics) in
    if nat_lt k alarms then record { part = k; position = before + tasks; item = 64 + k }
    else (if nat_lt k (alarms + cyclics) then record { part = k; position = before + tasks; item = 96 + (k - alarms) }
    else (if nat_lt task tasks then record { part = k; position = before + task; item = task }
    else record { part = k; position = before + tasks; item = 128 }))

-- so of a configuration
abbrev pub spot_of : Setup → ℕ → Spot
spot_of c k = spot_at (length c.alarms) (length c.cyclics) (length c.tasks) (1 + 3 * c.processors) k

-- so a place is told without a thing
abbrev pub IsWithout : KeptParts → Spot → Place → List ℕ → Type 0
IsWithout kept spot p list = (t : Told) × Tells kept p t × (list ≡ without spot t)

-- so many lists of these differ
pub record AreSoMany (lists : List (List ℕ)) (count : ℕ) : Type 0 where
  pub values : List (List ℕ)
  pub distinct : AreDistinct values
  pub all : (i : ℕ) (list : List ℕ) → slice_get lists i ≡ Some list → (n : ℕ) × (slice_get values n ≡ Some list)
  pub only : (n : ℕ) (list : List ℕ) → slice_get values n ≡ Some list → (i : ℕ) × (slice_get lists i ≡ Some list)
  pub count_is : count ≡ length values

-- of these keys so many places are left, as they are told by lists
pub record AreLeft (IsListOf : ℕ → List ℕ → Type 0) (keys : List ℕ) (count : ℕ) : Type 0 where
  pub lists : List (List ℕ)
  pub long : length lists ≡ length keys
  pub are : (i : ℕ) (list : List ℕ) → slice_get lists i ≡ Some list → IsListOf (slice_index keys i) list
  pub differ : AreSoMany lists count

-- a list tells the place of a key without a thing
abbrev pub TellsKey : Place → KeptPlaces → Spot → ℕ → List ℕ → Type 0
TellsKey o kept spot key list = (p : Place) → IsPlaceKey o kept key p → IsWithout kept.parts spot p list

-- of these keys so many places are left without each thing, where no two parts that are kept are the same
pub record AreLeftEach (o : Place) (kept : KeptPlaces) (keys lefts : List ℕ) : Type 0 where
  pub once : ArePartsOnce kept.parts
  pub all : length lefts ≡ things_of o.machine
  pub are : (k : ℕ) → k < length lefts → AreLeft (TellsKey o kept (spot_of o.config k)) keys (slice_index lefts k)
