-- What calls and ticks leave as it is, by the kinds of cells that they may change.
use Rattle.std.proofs.Common.{◌≡◌, ℕ, Bool, true, false, [], refl, sym, ap, Option, None}
use Rattle.std.proofs.lemmas.Bool.{false≢true}
use Rattle.std.proofs.lemmas.List.{ext_get_or}
use Rattle.fmp_codes.specs.declared.numbers.Proc.{Proc}
use Rattle.fmp_codes.specs.declared.numbers.Task.{Task}
use Rattle.fmp_codes.specs.declared.calls.Call.{Call}
use Rattle.fmp_codes.specs.declared.calls.Call.TheVariants as call
use Rattle.fmp_codes.specs.declared.calls.TaskCall.TheVariants as tasks
use Rattle.fmp_codes.specs.declared.calls.SyncCall.TheVariants as sync
use Rattle.fmp_codes.specs.declared.calls.BufferCall.TheVariants as buffer
use Rattle.fmp_codes.specs.declared.calls.TimeCall.TheVariants as time
use Rattle.fmp_codes.specs.declared.calls.SystemCall.TheVariants as system
use Rattle.fmp_rules.specs.declared.machine.TaskRecord.{TaskRecord}
use Rattle.fmp_rules.specs.declared.machine.Wait.{Wait}
use Rattle.fmp_rules.specs.World.{World, no_processor, task}
use Rattle.fmp_rules.specs.Objects.{blank_eventflag}
use Rattle.fmp_rules.specs.Ordering.{Ordering, begin_wait}
use Rattle.fmp_rules.specs.Tasks.{make_ready}
use Rattle.fmp_rules.specs.Rows.{called}
use Rattle.fmp_rules.specs.Step.{row_of}
use Rattle.fmp_rules.specs.Tick.{tick}
use Rattle.fmp_law_footprint.specs.Cells.{OfTask, CountsOf, OfProcessor, LatchOf, DueOn, OfEventflag, OfLock, Shape, at, value}
use Rattle.fmp_law_footprint.specs.Shapes.{Frame}
use Rattle.fmp_law_footprint.specs.Kinds.{Group, OnTasks, of_group, group, may_change}
use Rattle.fmp_law_footprint.proofs.OtherKinds as footprint

-- from w to v the processors, the holders of spin locks and the handlers that are due stay
pub record Still {Q : Type 0} (w v : World Q) : Type 0 where
  pub processors : v.processors ≡ w.processors
  pub holders : v.holders ≡ w.holders
  pub due : v.due ≡ w.due

-- a task but for its wait
abbrev pub besides : TaskRecord → TaskRecord
besides r = record r { wait = None }

-- from w to v nothing changes of t but perhaps its wait
pub record Leaves {Q : Type 0} (t : Task) (w v : World Q) : Type 0 where
  pub rest : besides (task v t) ≡ besides (task w t)

-- the call is none on processors, on spin locks, and no end
abbrev pub is_elsewhere : Call → Bool
is_elsewhere (call.Task tasks.ExtTsk) = false
is_elsewhere (call.System (system.RotRdq n)) = true
is_elsewhere (call.System (system.IrotRdq n)) = true
is_elsewhere (call.System (system.MrotRdq n q)) = true
is_elsewhere (call.System (system.ImrotRdq n q)) = true
is_elsewhere (call.System c) = false
is_elsewhere (call.Spin c) = false
is_elsewhere call.RetHdr = false
is_elsewhere other = true

-- it is none on eventflags
abbrev pub is_no_flag_call : Call → Bool
is_no_flag_call (call.Sync (sync.SigSem id)) = true
is_no_flag_call (call.Sync (sync.IsigSem id)) = true
is_no_flag_call (call.Sync (sync.WaiSem id)) = true
is_no_flag_call (call.Sync (sync.TwaiSem id timeout)) = true
is_no_flag_call (call.Sync (sync.PolSem id)) = true
is_no_flag_call (call.Sync c) = false
is_no_flag_call other = true

abbrev pub is_on_tasks : Call → Bool
is_on_tasks (call.Task c) = true
is_on_tasks other = false

abbrev pub is_return : Call → Bool
is_return call.RetHdr = true
is_return other = false

-- The kinds of such calls.

abbrev AreFar : Group → ℕ → Type 0
AreFar g n = (of_group g (OfProcessor n) ≡ false) × (of_group g (LatchOf n) ≡ false) × (of_group g (OfLock n) ≡ false) × (of_group g (DueOn n) ≡ false)

far : (c : Call) → is_elsewhere c ≡ true → (n : ℕ) → AreFar (group c) n
far (call.Task tasks.ExtTsk) e n = absurd (false≢true e)
far (call.Task c) e n = (refl, refl, refl, refl)
far (call.Sync (sync.SigSem id)) e n = (refl, refl, refl, refl)
far (call.Sync c) e n = (refl, refl, refl, refl)
far (call.Buffer (buffer.GetMpf id)) e n = (refl, refl, refl, refl)
far (call.Buffer c) e n = (refl, refl, refl, refl)
far (call.Time (time.StaCyc id)) e n = (refl, refl, refl, refl)
far (call.Time c) e n = (refl, refl, refl, refl)
far (call.System (system.RotRdq m)) e n = (refl, refl, refl, refl)
far (call.System (system.IrotRdq m)) e n = (refl, refl, refl, refl)
far (call.System (system.MrotRdq m q)) e n = (refl, refl, refl, refl)
far (call.System (system.ImrotRdq m q)) e n = (refl, refl, refl, refl)
far (call.System c) e n = absurd (false≢true e)
far (call.Spin c) e n = absurd (false≢true e)
far call.RetHdr e n = absurd (false≢true e)

no_flag : (c : Call) → is_no_flag_call c ≡ true → (n : ℕ) → may_change c (OfEventflag n) ≡ false
no_flag (call.Task tasks.ExtTsk) e n = refl
no_flag (call.Task c) e n = refl
no_flag (call.Sync (sync.SigSem id)) e n = refl
no_flag (call.Sync (sync.IsigSem id)) e n = refl
no_flag (call.Sync (sync.WaiSem id)) e n = refl
no_flag (call.Sync (sync.TwaiSem id timeout)) e n = refl
no_flag (call.Sync (sync.PolSem id)) e n = refl
no_flag (call.Sync c) e n = absurd (false≢true e)
no_flag (call.Buffer (buffer.GetMpf id)) e n = refl
no_flag (call.Buffer c) e n = refl
no_flag (call.Time (time.StaCyc id)) e n = refl
no_flag (call.Time c) e n = refl
no_flag (call.System (system.RotRdq m)) e n = refl
no_flag (call.System c) e n = refl
no_flag (call.Spin c) e n = refl
no_flag call.RetHdr e n = refl

no_task : (c : Call) → is_on_tasks c ≡ false → (n : ℕ) → (may_change c (OfTask n) ≡ false) × (may_change c (CountsOf n) ≡ false)
no_task (call.Task c) e n = absurd (false≢true (sym e))
no_task (call.Sync (sync.SigSem id)) e n = (refl, refl)
no_task (call.Sync c) e n = (refl, refl)
no_task (call.Buffer (buffer.GetMpf id)) e n = (refl, refl)
no_task (call.Buffer c) e n = (refl, refl)
no_task (call.Time (time.StaCyc id)) e n = (refl, refl)
no_task (call.Time c) e n = (refl, refl)
no_task (call.System (system.RotRdq m)) e n = (refl, refl)
no_task (call.System c) e n = (refl, refl)
no_task (call.Spin c) e n = (refl, refl)
no_task call.RetHdr e n = (refl, refl)

none_due : (c : Call) → is_return c ≡ false → (n : ℕ) → may_change c (DueOn n) ≡ false
none_due (call.Task tasks.ExtTsk) e n = refl
none_due (call.Task c) e n = refl
none_due (call.Sync (sync.SigSem id)) e n = refl
none_due (call.Sync c) e n = refl
none_due (call.Buffer (buffer.GetMpf id)) e n = refl
none_due (call.Buffer c) e n = refl
none_due (call.Time (time.StaCyc id)) e n = refl
none_due (call.Time c) e n = refl
none_due (call.System (system.RotRdq m)) e n = refl
none_due (call.System c) e n = refl
none_due (call.Spin c) e n = refl
none_due call.RetHdr e n = absurd (false≢true (sym e))

shape_stays : (g : Group) → of_group g Shape ≡ false
shape_stays OnTasks = refl
shape_stays _ = refl

-- Lists of a state that has the same in all cells of a kind, and as many of each.

module _ {Q : Type 0} (v w : World Q) (shape : value v Shape ≡ value w Shape) where
  processors_stay : ((n : ℕ) → value v (OfProcessor n) ≡ value w (OfProcessor n)) → ((n : ℕ) → value v (LatchOf n) ≡ value w (LatchOf n)) → v.processors ≡ w.processors
  processors_stay same latch =
      ext_get_or no_processor v.processors w.processors (ap (λ (f : Frame). f.processors) shape)
      (λ n below. let rest = same n in let latched = latch n in λ i. record (rest i) { latch = latched i })

  holders_stay : ((n : ℕ) → value v (OfLock n) ≡ value w (OfLock n)) → v.holders ≡ w.holders
  holders_stay same = ext_get_or None v.holders w.holders (ap (λ (f : Frame). f.holders) shape) (λ n below. same n)

  due_stay : ((n : ℕ) → value v (DueOn n) ≡ value w (DueOn n)) → v.due ≡ w.due
  due_stay same = ext_get_or [] v.due w.due (ap (λ (f : Frame). f.due) shape) (λ n below. same n)

  flags_stay : ((n : ℕ) → value v (OfEventflag n) ≡ value w (OfEventflag n)) → v.eventflags ≡ w.eventflags
  flags_stay same = ext_get_or blank_eventflag v.eventflags w.eventflags (ap (λ (f : Frame). f.eventflags) shape) (λ n below. same n)

rest_stays : {Q : Type 0} (t : Task) (w v : World Q) → value v (OfTask (at t)) ≡ value w (OfTask (at t)) → value v (CountsOf (at t)) ≡ value w (CountsOf (at t)) → Leaves t w v
rest_stays t w v rest counts = record { rest = λ i. record (rest i) { activations = (counts i).0; kept = (counts i).1; wakeups = (counts i).2 } }

module _ {Q : Type 0} (k : Ordering Q) (w : World Q) (p : Proc) where
  abbrev after : Call → World Q
  after c = (called w p (row_of k w p c)).0

  pub same_shape : (c : Call) → value (after c) Shape ≡ value w Shape
  same_shape c = footprint.call_leaves k w p c Shape (shape_stays (group c))

  pub call_still : (c : Call) → is_elsewhere c ≡ true → Still w (after c)
  call_still c e = record {
    processors = processors_stay (after c) w (same_shape c) (λ n. footprint.call_leaves k w p c (OfProcessor n) (far c e n).0)
        (λ n. footprint.call_leaves k w p c (LatchOf n) (far c e n).1);
    holders = holders_stay (after c) w (same_shape c) (λ n. footprint.call_leaves k w p c (OfLock n) (far c e n).2);
    due = due_stay (after c) w (same_shape c) (λ n. footprint.call_leaves k w p c (DueOn n) (far c e n).3);
  }

  pub call_calm : (c : Call) → is_no_flag_call c ≡ true → (after c).eventflags ≡ w.eventflags
  call_calm c e = flags_stay (after c) w (same_shape c) (λ n. footprint.call_leaves k w p c (OfEventflag n) (no_flag c e n))

  pub call_leaves_due : (c : Call) → is_return c ≡ false → (after c).due ≡ w.due
  call_leaves_due c e = due_stay (after c) w (same_shape c) (λ n. footprint.call_leaves k w p c (DueOn n) (none_due c e n))

  pub call_leaves : (t : Task) (c : Call) → is_on_tasks c ≡ false → Leaves t w (after c)
  call_leaves t c e =
      rest_stays t w (after c) (footprint.call_leaves k w p c (OfTask (at t)) (no_task c e (at t)).0)
      (footprint.call_leaves k w p c (CountsOf (at t)) (no_task c e (at t)).1)

  tick_shape : value (tick k w p).0 Shape ≡ value w Shape
  tick_shape = footprint.tick_leaves k w p Shape refl

  pub tick_still : ((tick k w p).0.processors ≡ w.processors) × ((tick k w p).0.holders ≡ w.holders)
  tick_still = (
    processors_stay (tick k w p).0 w tick_shape (λ n. footprint.tick_leaves k w p (OfProcessor n) refl) (λ n. footprint.tick_leaves k w p (LatchOf n) refl),
    holders_stay (tick k w p).0 w tick_shape (λ n. footprint.tick_leaves k w p (OfLock n) refl),
  )

  pub tick_calm : (tick k w p).0.eventflags ≡ w.eventflags
  tick_calm = flags_stay (tick k w p).0 w tick_shape (λ n. footprint.tick_leaves k w p (OfEventflag n) refl)

  pub tick_leaves : (t : Task) → Leaves t w (tick k w p).0
  tick_leaves t = rest_stays t w (tick k w p).0 (footprint.tick_leaves k w p (OfTask (at t)) refl) (footprint.tick_leaves k w p (CountsOf (at t)) refl)

module _ {Q : Type 0} (t : Task) (w : World Q) where
  pub leaves_all : Leaves t w w
  leaves_all = record { rest = refl }

  pub leaves_ready : (k : Ordering Q) (u : Task) → Leaves t w (make_ready k w u)
  leaves_ready k u = rest_stays t w (make_ready k w u) (footprint.ready_leaves k w u (OfTask (at t)) refl) (footprint.ready_leaves k w u (CountsOf (at t)) refl)

  pub leaves_begin : (k : Ordering Q) (u : Task) (x : Wait) (left : Option ℕ) → Leaves t w (begin_wait k w u x left)
  leaves_begin k u x left =
      rest_stays t w (begin_wait k w u x left) (footprint.begin_leaves k w u x left (OfTask (at t)) refl) (footprint.begin_leaves k w u x left (CountsOf (at t)) refl)
