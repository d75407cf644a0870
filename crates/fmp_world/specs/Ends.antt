-- How a run ends, and what its judge asks.
use Rattle.std.specs.Prelude.{◌≡◌, ℕ, ◌+◌, ◌<◌, ◌≤◌, ◌==◌, ◌↔◌, ◌⊎◌, Bool, true, false, List, [], ◌∷◌, length, slice_index_or, if◌then◌else◌, All}
use Rattle.fmp_codes.specs.Numbers.{as_proc}
use Rattle.fmp_codes.specs.declared.records.Event.{Event}
use Rattle.fmp_codes.specs.declared.records.Event.TheVariants as event
use Rattle.fmp_codes.specs.declared.records.Record.{Record}
use Rattle.fmp_codes.specs.Records.{is_tick}
use Rattle.fmp_text_scripts.specs.Scripts.{Steps, AreInBits}
use Rattle.fmp_calls.specs.Arguments.{EventInBits}
use Rattle.fmp_setup.specs.declared.setup.Timer.{Timer}
use Rattle.fmp_setup.specs.Setup.{Setup, has_time}
use Rattle.fmp_rules.specs.Boot.{booted}
use Rattle.fmp_law_safety.specs.Runs.{IsSafeThroughout}
use Rattle.fmp_law_lists.specs.Headline.{HeadlineThroughout}
use Rattle.fmp_world.specs.declared.seats.Receipt.{Receipt}
use Rattle.fmp_world.specs.declared.finishing.Ended.{Ended}
use Rattle.fmp_world.specs.declared.finishing.Ended.TheVariants.{Quiet, Limit}
use Rattle.fmp_smp_histories.specs.Histories.{events_of, state_after, IsRunOf, IsQuiet}
use Rattle.fmp_smp_histories.specs.Counted.{taken}
use Rattle.fmp_smp_histories.specs.Scripted.{Scripted}
use Rattle.fmp_world.specs.Views.{History, Seat, ClockSeat}

-- a call or an interrupt of the processor of this number
abbrev pub is_of_cpu : ℕ → Event → Bool
is_of_cpu n (event.Call p c) = p.number == n
is_of_cpu n (event.Tick p) = false
is_of_cpu n (event.Ipi p) = p.number == n

-- the receipts of the records whose events pass the test, where the first record has this number
abbrev pub receipts_from : (Event → Bool) → ℕ → List Record → List Receipt
receipts_from test n [] = []
receipts_from test n (r ∷ h) =
    if test r.event then record { number = n; event = r.event; answer = r.answer } ∷ receipts_from test (n + 1) h
    else receipts_from test (n + 1) h

abbrev pub receipts_of_cpu : ℕ → List Record → List Receipt
receipts_of_cpu n h = receipts_from (is_of_cpu n) 1 h

abbrev pub receipts_of_clock : List Record → List Receipt
receipts_of_clock h = receipts_from is_tick 1 h

-- a seat is that of the processor of its place, and has the receipts of its events
abbrev pub SeatFits : ℕ → List Record → Seat → Type 0
SeatFits k h s = (s.processor.number ≡ k + 1) × (s.receipts ≡ receipts_of_cpu (k + 1) h)

abbrev pub AllFit : List Seat → List Record → Type 0
AllFit cpus h = (k : ℕ) (d : Seat) → k < length cpus → SeatFits k h (slice_index_or cpus k d)

-- no processor took more ticks than that
abbrev pub TicksWithin : ℕ → ℕ → List Record → Type 0
TicksWithin n ticks h = (i : ℕ) → i < n → taken (i + 1) h ≤ ticks

-- each processor whose ticks count took that many: all of them, or under a global timer the master
abbrev pub TicksAre : Timer → ℕ → ℕ → List Record → Type 0
TicksAre timer n ticks h = (i : ℕ) → i < n → has_time timer (as_proc (i + 1)) ≡ true → taken (i + 1) h ≡ ticks

-- the last state is quiet, and each processor took all its ticks
pub record EndsQuiet (c : Setup) (ticks : ℕ) (h : List Record) : Type 0 where
  pub quiet : IsQuiet c.processors (state_after c h)
  pub all_taken : TicksAre c.timer c.processors ticks h

-- the seats are those of n processors in order, and have the receipts of their events
pub record AreSeats (n : ℕ) (cpus : List Seat) (clock : ClockSeat) (h : List Record) : Type 0 where
  pub count : length cpus ≡ n
  pub fit : AllFit cpus h
  pub clock_reported : clock.receipts ≡ receipts_of_clock h

-- the receipts by processor, and those of the clock last
pub record AreReceipts (n : ℕ) (receipts : List (List Receipt)) (h : List Record) : Type 0 where
  pub count : length receipts ≡ n + 1
  pub cpus : (k : ℕ) → k < n → slice_index_or receipts k [] ≡ receipts_of_cpu (k + 1) h
  pub clock : slice_index_or receipts n [] ≡ receipts_of_clock h

-- the world and its seats are a whole run of this configuration, these scripts and numbers
pub record IsWhole (w : History) (cpus : List Seat) (clock : ClockSeat) (c : Setup) (scripts : List Steps) (ticks turns : ℕ) : Type 0 where
  pub config : w.config ≡ c
  pub scripted : w.scripts ≡ scripts
  pub room : w.turns ≡ turns
  pub seats : AreSeats c.processors cpus clock w.records
  pub taken_within : TicksWithin c.processors ticks w.records
  pub ended : EndsQuiet c ticks w.records ⊎ (turns ≤ length w.records)

-- what is known of a run: a scripted history of the machine, with its receipts by processor and those of the clock last
pub record IsSmpRun (c : Setup) (scripts : List Steps) (ticks turns : ℕ) (h : List Record) (receipts : List (List Receipt)) (ended : Ended) : Type 0 where
  pub run : IsRunOf c h
  pub safe : IsSafeThroughout (booted c) (events_of h)
  pub headline : HeadlineThroughout c (events_of h) h
  pub scripted : Scripted c scripts h
  -- where the arguments of all steps are within the bits of their kinds, those of all events are
  pub in_bits : AreInBits scripts → All EventInBits (events_of h)
  pub report : AreReceipts c.processors receipts h
  pub taken_within : TicksWithin c.processors ticks h
  pub within : length h ≤ turns
  pub quiet : (ended ≡ Quiet) ↔ EndsQuiet c ticks h
  pub limit : ended ≡ Limit → length h ≡ turns
