-- The order in which a clock gives its ticks: round by round one taken tick to each processor whose ticks count.
use Rattle.std.specs.Prelude.{◌≡◌, ℕ, ◌+◌, ◌*◌, ◌%◌, ◌<◌, ◌≤◌, ◌⊎◌, Bool, true, false, List, take, Some, slice_get, nat_le, if◌then◌else◌}
use Rattle.std.specs.List.{count_by}
use Rattle.fmp_codes.specs.Numbers.{as_proc}
use Rattle.fmp_codes.specs.declared.numbers.Proc.{Proc}
use Rattle.fmp_codes.specs.declared.records.Answer.{Answer}
use Rattle.fmp_codes.specs.declared.records.Event.TheVariants.{Tick}
use Rattle.fmp_codes.specs.declared.records.Record.{Record}
use Rattle.fmp_codes.specs.Records.{is_taken}
use Rattle.fmp_setup.specs.declared.setup.Timer.{Timer}
use Rattle.fmp_setup.specs.declared.setup.Timer.TheVariants.{Local, Global}
use Rattle.fmp_setup.specs.Setup.{Setup}
use Rattle.fmp_world.specs.declared.seats.Turn.{Turn}
use Rattle.fmp_world.specs.declared.seats.Turn.TheVariants.{Made, Nothing, Full}
use Rattle.fmp_world.specs.Turns.{Ticks, Turns}
use Rattle.fmp_world.specs.Views.{History, Seat, ClockSeat}
use Rattle.fmp_world.specs.Findings.{is_taken_tick}

-- what a clock has to give: to so many processors from the first one on, so many taken ticks in all, of which some were given
pub record Rounds : Type 0 where
  pub first : ℕ
  pub count : ℕ
  pub total : ℕ
  pub given : ℕ

-- the number of the first processor whose ticks count, and how many there are: all of them, or the master alone
abbrev pub first_ticked : Timer → ℕ
first_ticked Local = 1
first_ticked (Global master) = master.number

abbrev pub ticked : Timer → ℕ → ℕ
ticked Local n = n
ticked (Global master) n = 1

-- all rounds of a configuration, of which so many ticks were given
abbrev pub rounds_of : Setup → ℕ → ℕ → Rounds
rounds_of c rounds given = record {
  first = first_ticked c.timer;
  count = ticked c.timer c.processors;
  total = rounds * ticked c.timer c.processors;
  given = given;
}

abbrev pub is_over : Rounds → Bool
is_over r = nat_le r.total r.given

-- the processor that is given the next tick
abbrev pub next_of : Rounds → Proc
next_of r = as_proc (r.first + r.given % r.count)

-- a held tick is the next one again
abbrev pub after_tick : Rounds → Answer → Rounds
after_tick r a = if is_taken a then record r { given = r.given + 1 } else r

-- `Nothing` where no tick is left. Else a tick of the next processor, and `Full` too where the world has no such processor
abbrev pub Gives : Rounds → History → ClockSeat → Turn → Rounds → History → ClockSeat → Type 0
Gives r w s Nothing r' w' s' = (is_over r ≡ true) × (r' ≡ r) × (w' ≡ w) × (s' ≡ s)
Gives r w s Full r' w' s' =
    (is_over r ≡ false)
    × ((w.config.processors < (next_of r).number) ⊎ Ticks w s (next_of r) Full w' s')
    × (r' ≡ r) × (w' ≡ w) × (s' ≡ s)
Gives r w s (Made report) r' w' s' =
    (is_over r ≡ false)
    × ((next_of r).number ≤ w.config.processors)
    × Ticks w s (next_of r) (Made report) w' s'
    × (r' ≡ after_tick r report.answer)

-- the turn made a tick that was taken
abbrev pub is_taken_turn : Turn → Bool
is_taken_turn (Made report) = is_taken report.answer
is_taken_turn other = false

-- a turn of a seat, and `Full` too where the world has no such processor
abbrev pub Takes : History → Seat → Turn → History → Seat → Type 0
Takes w s Full w' s' = ((w.config.processors < s.processor.number) ⊎ Turns w s Full w' s') × (w' ≡ w) × (s' ≡ s)
Takes w s other w' s' = (s.processor.number ≤ w.config.processors) × Turns w s other w' s'

-- what a clock has to give after one more record
abbrev pub after_record : Rounds → Record → Rounds
after_record r made = if is_taken_tick made then record r { given = r.given + 1 } else r

-- how many ticks of a history were taken
unfoldable pub ticks_taken : List Record → ℕ
ticks_taken h = count_by is_taken_tick h

-- a tick of this processor is the next that a clock has to give
abbrev pub IsDue : Rounds → Proc → Type 0
IsDue r p = (is_over r ≡ false) × (p ≡ next_of r)

-- each tick of a history is the one that was due after the records before it: only ticks that were taken count, so a held one is
-- due again before any other
unfoldable pub TicksInTurn : Setup → ℕ → List Record → Type 0
TicksInTurn c rounds h =
    (k : ℕ) (r : Record) (p : Proc) → slice_get h k ≡ Some r → r.event ≡ Tick p → IsDue (rounds_of c rounds (ticks_taken (take k h))) p

-- so many rounds go on after the records of the world, whose ticks are in turn
abbrev pub AreInTurn : ℕ → History → Rounds → Type 0
AreInTurn rounds w r = (r ≡ rounds_of w.config rounds (ticks_taken w.records)) × TicksInTurn w.config rounds w.records

-- a world, and the ticks that its clock has to give there in so many rounds
pub record Clocked : Type 0 where
  pub world : History
  pub ticks : ℕ
  pub rounds : Rounds
