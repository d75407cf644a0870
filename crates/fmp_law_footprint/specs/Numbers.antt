-- What the cells have of the order that the model keeps by numbers.
use Rattle.std.specs.Prelude.{ℕ, slice_index_or}
use Rattle.fmp_rules.specs.Arrivals.{Arrivals}
use Rattle.fmp_law_footprint.specs.Cells.{Cell, OfTask, CountsOf, WaitOf, LeftOf, SpotOf, ReadyOn, WaitersOf, TimedWaits, Arriving, OfProcessor, LatchOf, DueOn, OfSemaphore, OfEventflag, OfDataQueue, OfPool, OfCyclic, OfAlarm, OfLock, Shape}

abbrev pub Numbers : Cell → Type 0
Numbers (SpotOf n) = ℕ × ℕ
Numbers Arriving = ℕ
Numbers _ = Unit {0}

-- the spot of a task has two numbers, when it became ready and when its wait began; all tasks share the next number
abbrev pub numbers : Arrivals → (c : Cell) → Numbers c
numbers q (SpotOf n) = (slice_index_or q.ready n 0, slice_index_or q.begun n 0)
numbers q Arriving = q.next
numbers q (OfTask n) = tt
numbers q (CountsOf n) = tt
numbers q (WaitOf n) = tt
numbers q (LeftOf n) = tt
numbers q (ReadyOn n) = tt
numbers q (WaitersOf x n) = tt
numbers q TimedWaits = tt
numbers q (OfProcessor n) = tt
numbers q (LatchOf n) = tt
numbers q (DueOn n) = tt
numbers q (OfSemaphore n) = tt
numbers q (OfEventflag n) = tt
numbers q (OfDataQueue n) = tt
numbers q (OfPool n) = tt
numbers q (OfCyclic n) = tt
numbers q (OfAlarm n) = tt
numbers q (OfLock n) = tt
numbers q Shape = tt

-- numbers keep no queue, so nothing stands in one
abbrev pub Anywhere : Arrivals → Type 0
Anywhere q = Unit {0}

-- Where S has a task or its wait, it has its spot; where it has a spot, it has the next number, which a task may take there. It does not have what no event changes.
pub record Spotted (S : Cell → Type 0) : Type 0 where
  pub next : (n : ℕ) → S (SpotOf n) → S Arriving
  pub task : (n : ℕ) → S (OfTask n) → S (SpotOf n)
  pub wait : (n : ℕ) → S (WaitOf n) → S (SpotOf n)
  pub shape : S Shape → ⊥
