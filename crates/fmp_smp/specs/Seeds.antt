-- The order that a seed gives.
use Rattle.std.specs.Prelude.{◌≡◌, ℕ, zero, suc, ◌%◌, ◌<◌, ◌≤◌, ◌⊎◌, Bool, true, false, List, [], ◌∷◌, ◌++◌, length, take, Option, Some, None, IsSome, is_some, slice_get}
use Rattle.std.specs.Prelude.{slice_index_or, if◌then◌else◌}
use Rattle.fmp_codes.specs.Numbers.{as_proc}
use Rattle.fmp_codes.specs.declared.records.Event.{Event}
use Rattle.fmp_codes.specs.declared.records.Event.TheVariants.{Tick}
use Rattle.fmp_codes.specs.declared.records.Record.{Record}
use Rattle.fmp_setup.specs.Setup.{Setup}
use Rattle.fmp_text_scripts.specs.Scripts.{Steps}
use Rattle.fmp_smp.specs.declared.seeded.Mover.{Mover}
use Rattle.fmp_smp.specs.declared.seeded.Mover.TheVariants.{Cpu, Clock}
use Rattle.fmp_smp.specs.Rounds.{Rounds, rounds_of, is_over, next_of, after_record, ticks_taken}
use Rattle.fmp_world.specs.declared.seats.Turn.{Turn}
use Rattle.fmp_world.specs.declared.seats.Turn.TheVariants.{Made}
use Rattle.fmp_world.specs.Ends.{AreSeats}
use Rattle.fmp_smp_histories.specs.Scripted.{choice}
use Rattle.fmp_world.specs.Turns.{is_full, report_after}
use Rattle.fmp_world.specs.Views.{History, Seat, ClockSeat}
use Rattle.rand_xoshiro.specs.SplitMix64.{mix_u64, next_state}

-- the state of SplitMix64 from a seed after n numbers, and the number after them
unfoldable pub state_at : ℕ → ℕ → ℕ
state_at seed zero = seed
state_at seed (suc n) = next_state (state_at seed n)

unfoldable pub number_at : ℕ → ℕ → ℕ
number_at seed n = (mix_u64 (state_at seed n)).0

-- a processor that has something to do
abbrev pub cpu_of : Setup → List Steps → List Record → ℕ → List Mover
cpu_of c scripts h n = if is_some (choice c scripts h (as_proc n)) then (Cpu (as_proc n) ∷ []) else []

-- those of the processors 1 to n that have something to do, in their order
unfoldable pub cpus_of : Setup → List Steps → List Record → ℕ → List Mover
cpus_of c scripts h zero = []
cpus_of c scripts h (suc n) = cpus_of c scripts h n ++ cpu_of c scripts h (suc n)

-- those that can make the next record: the processors that have something to do, and after them the clock while it has ticks to
-- give
unfoldable pub movers : Setup → List Steps → List Record → Rounds → List Mover
movers c scripts h r = cpus_of c scripts h c.processors ++ (if is_over r then [] else (Clock ∷ []))

-- the one at the place that a number gives, modulo the length of the list
unfoldable pub drawn : List Mover → ℕ → Option Mover
drawn list number = slice_get list (number % length list)

-- what it does: a processor what it has to do, and the clock gives its next tick
abbrev pub event_of : Setup → List Steps → List Record → Rounds → Option Mover → Option Event
event_of c scripts h r None = None
event_of c scripts h r (Some (Cpu p)) = choice c scripts h p
event_of c scripts h r (Some Clock) = Some (Tick (next_of r))

-- the event that a number draws after a history, with so many rounds of ticks
abbrev pub event_drawn : Setup → List Steps → ℕ → List Record → ℕ → Option Event
event_drawn c scripts rounds h number =
    let r = rounds_of c rounds (ticks_taken h) in
    event_of c scripts h r (drawn (movers c scripts h r) number)

-- each record is of the event that the seed's number draws after those before it
abbrev pub IsInOrderOf : ℕ → Setup → List Steps → ℕ → List Record → Type 0
IsInOrderOf seed c scripts rounds h =
    (k : ℕ) (r : Record) → slice_get h k ≡ Some r → event_drawn c scripts rounds (take k h) (number_at seed k) ≡ Some r.event

-- a mover that has something to do, on a processor of the world
abbrev pub CanMove : History → Rounds → Mover → Type 0
CanMove w r (Cpu p) = IsSome (choice w.config w.scripts w.records p) × (p.number ≤ w.config.processors)
CanMove w r Clock = (is_over r ≡ false) × ((next_of r).number ≤ w.config.processors)

-- the seats are those of the processors in order, with the receipts of the records, and have room for all turns
pub record AreSeated (w : History) (cpus : List Seat) (clock : ClockSeat) : Type 0 where
  pub seats : AreSeats w.config.processors cpus clock w.records
  pub rooms : (k : ℕ) (d : Seat) → k < length cpus → (slice_index_or cpus k d).room ≡ w.turns
  pub clock_room : clock.room ≡ w.turns

-- a turn that made a record
abbrev pub is_recorded : Turn → Bool
is_recorded (Made report) = true
is_recorded other = false

-- the history has one more record, that of what this mover does, and the clock goes on by it
pub record Moves (w : History) (r : Rounds) (m : Mover) (w' : History) (r' : Rounds) : Type 0 where
  pub event : Event
  pub does : event_of w.config w.scripts w.records r (Some m) ≡ Some event
  pub room : length w.records < w.turns
  pub history : w' ≡ record w { records = w.records ++ report_after w event ∷ [] }
  pub rounds : r' ≡ after_record r (report_after w event)

-- the mover made its record, or the history is full and nothing changed
abbrev pub Goes : History → Rounds → Mover → Bool → History → Rounds → Type 0
Goes w r m true w' r' = Moves w r m w' r'
Goes w r m false w' r' = (is_full w ≡ true) × (w' ≡ w) × (r' ≡ r)

-- the one whom the generator's number draws made its record, or nobody can make one, or the history is full, and nothing changed
abbrev pub GoesOn : History → Rounds → ℕ → Bool → History → Rounds → ℕ → Type 0
GoesOn w r x true w' r' x' =
    (m : Mover) × (drawn (movers w.config w.scripts w.records r) (mix_u64 x).0 ≡ Some m) × Moves w r m w' r' × (x' ≡ next_state x)
GoesOn w r x false w' r' x' = ((movers w.config w.scripts w.records r ≡ []) ⊎ (is_full w ≡ true)) × (w' ≡ w) × (r' ≡ r) × (x' ≡ next_state x)
