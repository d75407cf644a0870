-- What S must have for the words of the rules by which calls and ticks change tasks, processors and locks.
use Rattle.std.specs.Prelude.{◌≡◌, ℕ, ℤ, ◌==◌, Bool, true, false, Option, None, Some, List, [], ◌∷◌, slice_index_or}
use Rattle.fmp_codes.specs.declared.numbers.Object.{Object}
use Rattle.fmp_codes.specs.declared.numbers.Proc.{Proc}
use Rattle.fmp_codes.specs.declared.numbers.Task.{Task}
use Rattle.fmp_rules.specs.declared.machine.Wait.{Wait}
use Rattle.fmp_rules.specs.World.{World, task}
use Rattle.fmp_rules.specs.Processors.{is_at}
use Rattle.fmp_rules.specs.Tasks.{ended}
use Rattle.fmp_rules.specs.Arguments.{caller, is_zero, ticks_of}
use Rattle.fmp_law_footprint.specs.Cells.{Cell, OfTask, CountsOf, WaitOf, LeftOf, SpotOf, ReadyOn, OfProcessor, OfLock, at, there, on}
use Rattle.fmp_law_footprint.specs.Footprints.{InQueue, InTimed}

-- X where a test passes, and Y where it does not
abbrev pub Either : Bool → Type 0 → Type 0 → Type 0
Either b X Y = (b ≡ true → X) × (b ≡ false → Y)

-- P holds of each
abbrev pub Each : {X : Type 0} → (X → Type 0) → List X → Type 0
Each P [] = Unit {0}
Each P (x ∷ xs) = P x × Each P xs

module _ (S : Cell → Type 0) where
  -- the wait of a task ends
  abbrev pub Wakes : Task → Type 0
  Wakes t = S (WaitOf (at t)) × S (LeftOf (at t)) × S (SpotOf (at t))

  -- a task begins to wait for this
  abbrev pub Sleeps : Task → Wait → Option ℕ → Type 0
  Sleeps t x left = Wakes t × InQueue S (Some x) × InTimed S left

  -- the record of a task changes, so that it may stand elsewhere
  abbrev pub Changes : Task → Type 0
  Changes t = S (OfTask (at t)) × S (SpotOf (at t))

  -- a dormant task starts on p
  abbrev pub Starts : Task → Proc → Type 0
  Starts t p = Changes t × S (CountsOf (at t)) × S (WaitOf (at t)) × S (ReadyOn (on p))

  -- the first that waits is released, or if nobody waits this cell changes
  abbrev pub WakesOr : Cell → Option Task → Type 0
  WakesOr c None = S c
  WakesOr c (Some t) = Wakes t

  -- p takes a lock, and is CPU-locked from then on
  abbrev pub Takes : Proc → Object → Type 0
  Takes p l = S (OfProcessor (on p)) × S (OfLock (there l))

module _ {Q : Type 0} (S : Cell → Type 0) (w : World Q) where
  -- a task is activated: it starts on p, or its activation is queued
  abbrev pub Activates : Task → Proc → Type 0
  Activates t p = Either (task w t).active (S (CountsOf (at t))) (Starts S t p)

  -- a task ends, and starts again where an activation is queued, on the processor that is kept for it
  abbrev pub Ends : Task → Type 0
  Ends t = Wakes S t × S (OfTask (at t)) × S (CountsOf (at t)) × S (ReadyOn (on (ended (task w t)).assigned))

  -- a task is assigned to p, if it is not yet
  abbrev pub Migrates : Task → Proc → Type 0
  Migrates t p = Either ((task w t).assigned.number == p.number) (Unit {0}) (Changes S t × S (ReadyOn (on p)))

  -- p leaves the CPU-locked state and frees what it holds
  abbrev pub Unlocks : Proc → Type 0
  Unlocks p = S (OfProcessor (on p)) × ((n : ℕ) → is_at p (slice_index_or w.holders n None) ≡ true → S (OfLock n))

  -- what can be done at once is done; else the caller waits, unless its timeout is 0
  abbrev pub DoneOrWait : Proc → Bool → Type 0 → Wait → ℤ → Type 0
  DoneOrWait p can Done x timeout = Either can Done (Either (is_zero timeout) (Unit {0}) (Sleeps S (caller w p) x (ticks_of timeout)))
