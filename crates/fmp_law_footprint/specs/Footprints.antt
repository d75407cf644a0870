-- What it is that all cells but some stay as they are. The cells S that may change are any that have what the event needs (`Covers`).
use Rattle.std.specs.Prelude.{◌≡◌, ℕ, Bool, true, Option, None, Some, List, slice_index_or}
use Rattle.fmp_codes.specs.declared.numbers.Proc.{Proc}
use Rattle.fmp_codes.specs.declared.numbers.Task.{Task}
use Rattle.fmp_setup.specs.declared.setup.Order.{Order}
use Rattle.fmp_rules.specs.declared.machine.TaskRecord.{TaskRecord}
use Rattle.fmp_rules.specs.declared.machine.Wait.{Wait}
use Rattle.fmp_rules.specs.declared.machine.Wait.TheVariants as wait
use Rattle.fmp_rules.specs.declared.machine.QueueKind.TheVariants as kind
use Rattle.fmp_rules.specs.World.{World, no_task}
use Rattle.fmp_rules.specs.Ordering.{Ordering, top}
use Rattle.fmp_law_footprint.specs.Cells.{Cell, SpotOf, ReadyOn, WaitersOf, TimedWaits, at, there, on, value}

-- those cells that pass a test
abbrev pub Within : (Cell → Bool) → Cell → Type 0
Within f c = f c ≡ true

module _ (S : Cell → Type 0) where
  -- S has the queue in which a wait stands
  abbrev pub InQueue : Option Wait → Type 0
  InQueue (Some (wait.Semaphore s)) = S (WaitersOf kind.Semaphore (there s))
  InQueue (Some (wait.Eventflag f pattern mode)) = S (WaitersOf kind.Eventflag (there f))
  InQueue (Some (wait.Send d value)) = S (WaitersOf kind.Send (there d))
  InQueue (Some (wait.Receive d)) = S (WaitersOf kind.Receive (there d))
  InQueue (Some (wait.Pool m)) = S (WaitersOf kind.Pool (there m))
  InQueue other = Unit {0}

  -- S has the timed waits, if ticks are left
  abbrev pub InTimed : Option ℕ → Type 0
  InTimed None = Unit {0}
  InTimed (Some n) = S TimedWaits

  -- Where S has the spot of a task, it has all the places where that task may stand: among the ready tasks of the processor to which it is assigned, in the queue in
  -- which it waits, and among the timed waits if its wait is timed.
  pub record Closed (tasks : List TaskRecord) (left : List (Option ℕ)) : Type 0 where
    pub ready : (n : ℕ) → S (SpotOf n) → S (ReadyOn (on (slice_index_or tasks n no_task).assigned))
    pub queue : (n : ℕ) → S (SpotOf n) → InQueue (slice_index_or tasks n no_task).wait
    pub timed : (n : ℕ) → S (SpotOf n) → InTimed (slice_index_or left n None)

  -- from w to v every cell that is not in S keeps its value
  abbrev pub Leaves : {Q : Type 0} → World Q → World Q → Type 0
  Leaves w v = (c : Cell) → (S c → ⊥) → value v c ≡ value w c

-- For any way Q to keep an order: `part` is what each cell has of an order, and `Inside` says that no task whose spot is in S stands in a queue that is not.
module _ {Q : Type 0} (Part : Cell → Type 0) (part : Q → (c : Cell) → Part c) (S : Cell → Type 0) (Inside : Q → Type 0) where
  -- from q to r every cell that is not in S keeps its part
  abbrev pub Spares : Q → Q → Type 0
  Spares q r = (c : Cell) → (S c → ⊥) → part r c ≡ part q c

  abbrev pub Orders : Q → Q → Type 0
  Orders q r = Inside q → Inside r × Spares q r

  -- each word of an ordering changes only cells of S, where S has the spot of its task and the queues that the word names
  pub record IsLocal (k : Ordering Q) : Type 0 where
    pub put_last : (q : Q) (r : TaskRecord) (t : Task) → S (SpotOf (at t)) → S (ReadyOn (on r.assigned)) → Orders q (k.put_last q r t)
    pub take_out : (q : Q) (r : TaskRecord) (t : Task) → S (SpotOf (at t)) → S (ReadyOn (on r.assigned)) → Orders q (k.take_out q r t)
    pub join : (q : Q) (o : Order) (r : TaskRecord) (left : Option ℕ) (t : Task) → S (SpotOf (at t)) → InQueue S r.wait → InTimed S left
        → Orders q (k.join q o r left t)
    pub leave : (q : Q) (r : TaskRecord) (t : Task) → S (SpotOf (at t)) → InQueue S r.wait → Orders q (k.leave q r t)

  -- a state where S has all the places of the tasks whose spots it has
  pub record Good (w : World Q) : Type 0 where
    pub closed : Closed S w.tasks w.waits_left
    pub inside : Inside w.order

  -- from w to v every cell that is not in S stays, in the fields and in the order, and v is good
  pub record Moved (w v : World Q) : Type 0 where
    pub closed : Closed S v.tasks v.waits_left
    pub inside : Inside v.order
    pub leaves : Leaves S w v
    pub spares : Spares w.order v.order

  abbrev pub Moves : World Q → World Q → Type 0
  Moves w v = Good w → Moved w v

  -- the first of the ready tasks of a processor stays the same where these are not in S
  pub record TellsTops (k : Ordering Q) : Type 0 where
    pub top : (w v : World Q) (p : Proc) → Good w → Moved w v → (S (ReadyOn (on p)) → ⊥) → top k v p ≡ top k w p
