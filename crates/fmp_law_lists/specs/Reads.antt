-- What it is that two states have the same in the cells S, and that the same is done in both.
use Rattle.std.specs.Prelude.{◌≡◌, ℕ, Option, List}
use Rattle.fmp_codes.specs.declared.numbers.Object.{Object}
use Rattle.fmp_codes.specs.declared.numbers.Pri.{Pri}
use Rattle.fmp_codes.specs.declared.numbers.Proc.{Proc}
use Rattle.fmp_codes.specs.declared.numbers.Task.{Task}
use Rattle.fmp_codes.specs.declared.records.Record.{Record}
use Rattle.fmp_setup.specs.declared.setup.Order.{Order}
use Rattle.fmp_rules.specs.Effects.{Effect}
use Rattle.fmp_rules.specs.declared.machine.TaskRecord.{TaskRecord}
use Rattle.fmp_rules.specs.declared.machine.QueueKind.{QueueKind}
use Rattle.fmp_rules.specs.World.{World}
use Rattle.fmp_rules.specs.Ordering.{Ordering}
use Rattle.fmp_law_footprint.specs.Cells.{Cell, ReadyOn, WaitersOf, TimedWaits, OfProcessor, LatchOf, DueOn, there, on, standing, value}
use Rattle.fmp_law_footprint.specs.Shapes.{frame}

module _ {Q : Type 0} (Part : Cell → Type 0) (part : Q → (c : Cell) → Part c) (S : Cell → Type 0) where
  -- two orders have the same in the cells
  abbrev pub Same : Q → Q → Type 0
  Same q r = (c : Cell) → S c → part q c ≡ part r c

  -- two states of one configuration have the same in the cells
  pub record Agree (v w : World Q) : Type 0 where
    pub shape : frame v ≡ frame w
    pub values : (c : Cell) → S c → value v c ≡ value w c
    pub parts : Same v.order w.order

  -- what a call did in two states, and what an event did with its record: the states agree after it, and the same is told
  abbrev pub DoAlike : World Q × Effect → World Q × Effect → Type 0
  DoAlike d e = Agree d.0 e.0 × (d.1 ≡ e.1)

  abbrev pub StepsAlike : World Q × Record → World Q × Record → Type 0
  StepsAlike d e = Agree d.0 e.0 × (d.1 ≡ e.1)

  -- Each word that changes an order leaves the cells the same where they were the same; and what an ordering tells of ready tasks, of a queue and of the timed waits
  -- is told by that one cell alone.
  pub record ReadsCells (k : Ordering Q) : Type 0 where
    pub put_last : (q r : Q) (x y : TaskRecord) (t : Task) → standing x ≡ standing y → Same q r → Same (k.put_last q x t) (k.put_last r y t)
    pub take_out : (q r : Q) (x y : TaskRecord) (t : Task) → standing x ≡ standing y → Same q r → Same (k.take_out q x t) (k.take_out r y t)
    pub join : (q r : Q) (o : Order) (x y : TaskRecord) (left : Option ℕ) (t : Task) → standing x ≡ standing y → x.wait ≡ y.wait → Same q r
        → Same (k.join q o x left t) (k.join r o y left t)
    pub leave : (q r : Q) (x y : TaskRecord) (t : Task) → x.wait ≡ y.wait → Same q r → Same (k.leave q x t) (k.leave r y t)
    pub top : (q r : Q) (ts us : List TaskRecord) (p : Proc) → S (ReadyOn (on p)) → Same q r → k.top q ts p ≡ k.top r us p
    pub ready : (q r : Q) (ts us : List TaskRecord) (p : Proc) (n : Pri) → S (ReadyOn (on p)) → Same q r → k.ready q ts p n ≡ k.ready r us p n
    pub waiters : (q r : Q) (ts us : List TaskRecord) (o : Order) (x : QueueKind) (n : Object) → S (WaitersOf x (there n)) → Same q r
        → k.waiters q ts o x n ≡ k.waiters r us o x n
    pub timed : (q r : Q) (ns ms : List (Option ℕ)) → S TimedWaits → Same q r → k.timed q ns ≡ k.timed r ms

module _ (S : Cell → Type 0) where
  -- S has what each event of p reads
  pub record Own (p : Proc) : Type 0 where
    pub processor : S (OfProcessor (on p))
    pub latch : S (LatchOf (on p))
    pub due : S (DueOn (on p))
    pub ready : S (ReadyOn (on p))
