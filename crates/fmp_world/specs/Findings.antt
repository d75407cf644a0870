-- What the judge finds in the records of a history.
use Rattle.std.specs.Prelude.{◌≡◌, ℕ, ◌+◌, ◌-◌, ◌<◌, ◌==◌, ◌↔◌, Bool, ◌&&◌, List, length, take, Option, Some, None, slice_get, slice_set, slice_index, slice_index_or}
use Rattle.std.specs.Prelude.{if◌then◌else◌, IsTrue}
use Rattle.fmp_codes.specs.Records.{processor_of, is_taken, is_tick}
use Rattle.fmp_codes.specs.declared.records.Event.{Event}
use Rattle.fmp_codes.specs.declared.records.Event.TheVariants as event
use Rattle.fmp_codes.specs.declared.records.Record.{Record}
use Rattle.fmp_world.specs.declared.findings.Findings.{Findings}
use Rattle.fmp_world.specs.declared.seats.Receipt.{Receipt}
use Rattle.fmp_world.specs.Ends as ends
use Rattle.fmp_smp_histories.specs.Counted as history
use Rattle.fmp_world.specs.Views.{Seat, ClockSeat}

-- the place of the seat that is told an event: its processor's, or after the eight of those the clock's
abbrev pub seat_of : Event → ℕ
seat_of (event.Call p c) = p.number - 1
seat_of (event.Tick p) = 8
seat_of (event.Ipi p) = p.number - 1

abbrev pub is_of_seat : ℕ → Event → Bool
is_of_seat k e = seat_of e == k

-- the receipts of a seat, and the clock's at every place after the processors'
abbrev pub report_of : ClockSeat → Option Seat → List Receipt
report_of clock None = clock.receipts
report_of clock (Some s) = s.receipts

abbrev pub receipts_at : List Seat → ClockSeat → ℕ → List Receipt
receipts_at cpus clock k = report_of clock (slice_get cpus k)

-- the receipts of the records that are told a seat
abbrev pub report_at : ℕ → List Record → List Receipt
report_at k h = ends.receipts_from (is_of_seat k) 1 h

-- the receipt of a record that has this number
abbrev pub receipt : ℕ → Record → Receipt
receipt n r = record { number = n; event = r.event; answer = r.answer }

abbrev pub is_taken_tick : Record → Bool
is_taken_tick r = is_tick r.event && is_taken r.answer

-- the counts of taken ticks, after one record more
abbrev pub counted : List ℕ → Record → List ℕ
counted counts r =
    let place = (processor_of r.event).number - 1 in
    if is_taken_tick r then slice_set counts place (slice_index counts place + 1) else counts

-- the seats begin with the receipts of the records
abbrev pub Begin : List Seat → ClockSeat → List Record → Type 0
Begin cpus clock h = (k : ℕ) → k < 9 → take (length (report_at k h)) (receipts_at cpus clock k) ≡ report_at k h

-- how many receipts of each seat there are, and how many ticks each processor took
abbrev pub ArePassed : List ℕ → List Record → Type 0
ArePassed counts h = (k : ℕ) → k < 9 → slice_index counts k ≡ length (report_at k h)

abbrev pub AreTaken : List ℕ → List Record → Type 0
AreTaken counts h = (k : ℕ) → k < 8 → slice_index counts k ≡ history.taken (k + 1) h

-- this was found in the records
pub record Finds (f : Findings) (cpus : List Seat) (clock : ClockSeat) (h : List Record) : Type 0 where
  pub places : length f.passed ≡ 9
  pub passed : ArePassed f.passed h
  pub processors : length f.taken ≡ 8
  pub taken : AreTaken f.taken h
  pub fits : IsTrue f.fits ↔ Begin cpus clock h

-- what one record more changes
pub record Takes (f : Findings) (cpus : List Seat) (clock : ClockSeat) (number : ℕ) (r : Record) (f' : Findings) : Type 0 where
  pub passed : f'.passed ≡ slice_set f.passed (seat_of r.event) (slice_index f.passed (seat_of r.event) + 1)
  pub taken : f'.taken ≡ counted f.taken r
  pub fits : IsTrue f'.fits ↔ (IsTrue f.fits × (slice_get (receipts_at cpus clock (seat_of r.event)) (slice_index f.passed (seat_of r.event)) ≡ Some (receipt number r)))

-- a seat is that of the processor of its place, and has as many receipts as it was told
abbrev pub IsPassed : List ℕ → ℕ → Seat → Type 0
IsPassed counts k s = (s.processor.number ≡ k + 1) × (length s.receipts ≡ slice_index counts k)

abbrev pub AllPassed : List Seat → List ℕ → Type 0
AllPassed cpus counts = (k : ℕ) (d : Seat) → k < length cpus → IsPassed counts k (slice_index_or cpus k d)
