-- States that agree, and words that keep them so.
use Rattle.std.proofs.Common.{◌≡◌, ℕ, zero, suc, map, ℤ, ◌<◌, ◌≤◌, Bool, true, false, not, ◌&&◌, List, [], ◌∷◌, length, refl, sym, ap, ◌∙◌, subst, ⊎_elim, Option, None, Some}
use Rattle.std.specs.Prelude.{slice_index_or, slice_set, is_some, if◌then◌else◌}
use Rattle.std.proofs.lemmas.Bool.{cases_eq, cases_lt, true≢false, false≢true}
use Rattle.std.proofs.lemmas.List.{get_or-set_same, get_or-set_other, length-set, length-map, get_or_past}
use Rattle.fmp_codes.specs.declared.numbers.Proc.{Proc}
use Rattle.fmp_codes.specs.declared.numbers.Task.{Task}
use Rattle.fmp_codes.specs.declared.numbers.Object.{Object}
use Rattle.fmp_setup.specs.declared.setup.Order.{Order}
use Rattle.fmp_setup.specs.declared.setup.Order.TheVariants as order
use Rattle.fmp_rules.specs.declared.machine.Eventflag.{Eventflag}
use Rattle.fmp_rules.specs.declared.machine.Processor.{Processor}
use Rattle.fmp_rules.specs.declared.machine.Semaphore.{Semaphore}
use Rattle.fmp_rules.specs.declared.machine.TaskRecord.{TaskRecord}
use Rattle.fmp_codes.specs.declared.records.Runner.{Runner}
use Rattle.fmp_rules.specs.declared.machine.Alarm.{Alarm}
use Rattle.fmp_rules.specs.declared.machine.Cyclic.{Cyclic}
use Rattle.fmp_rules.specs.declared.machine.Pool.{Pool}
use Rattle.fmp_rules.specs.declared.machine.Wait.{Wait}
use Rattle.fmp_rules.specs.World.{World, no_task, no_processor, task, with_processor, item, with_item}
use Rattle.fmp_rules.specs.Objects.{blank_semaphore, blank_eventflag, blank_pool}
use Rattle.fmp_rules.specs.Ordering.{Ordering, is_runnable, with_task, depart, arrive, rejoin, place, end_wait, begin_wait, put_last, requeue, order_of}
use Rattle.fmp_rules.specs.Processors.{is_at}
use Rattle.fmp_rules.specs.Tasks.{make_ready}
use Rattle.fmp_law_footprint.specs.Cells.{Cell, OfTask, CountsOf, WaitOf, LeftOf, OfProcessor, LatchOf, DueOn, OfSemaphore, OfEventflag, OfDataQueue, OfPool, OfCyclic, OfAlarm, OfLock, Shape, at, there, on, standing, tally, unlatched, blank_cyclic, blank_alarm, value}
use Rattle.fmp_law_footprint.specs.Shapes.{Frame, frame}
use Rattle.fmp_law_lists.specs.Reads.{Same, Agree, ReadsCells}
use Rattle.fmp_law_lists.specs.ReadsObjects.{Knows}

pub if_alike : {X : Type 0} (R : X → X → Type 0) (a b : Bool) → a ≡ b → {x x' y y' : X} → R x x' → R y y' → R (if a then x else y) (if b then x' else y')
if_alike R true true e p q = p
if_alike R true false e p q = absurd (true≢false e)
if_alike R false true e p q = absurd (false≢true e)
if_alike R false false e p q = q

-- where the same is seen of two lists it is seen after the same is put into both
pub alike_after : {X Y : Type 0} (see : X → Y) (blank : X) (xs ys : List X) (m : ℕ) (x y : X) (n : ℕ) → length xs ≡ length ys → (n ≡ m → see x ≡ see y)
    → see (slice_index_or xs n blank) ≡ see (slice_index_or ys n blank)
    → see (slice_index_or (slice_set xs m x) n blank) ≡ see (slice_index_or (slice_set ys m y) n blank)
alike_after see blank xs ys m x y n few new old =
    ⊎_elim
    (λ (e : n ≡ m).
    ⊎_elim
    (λ (h : m < length xs).
    let k : m < length ys = rw (← few) h in
    ap (λ i. see (slice_index_or (slice_set xs m x) i blank)) e ∙ ap see (get_or-set_same xs m x blank h) ∙ new e ∙ sym (ap see (get_or-set_same ys m y blank k))
    ∙ ap (λ i. see (slice_index_or (slice_set ys m y) i blank)) (sym e))
    (λ (h : length xs ≤ m).
    let a : length (slice_set xs m x) ≤ n = rw (length-set xs m x, e) h in
    let b : length (slice_set ys m y) ≤ n = rw (length-set ys m y, e, ← few) h in
    ap see (get_or_past (slice_set xs m x) n blank a ∙ sym (get_or_past (slice_set ys m y) n blank b)))
    (cases_lt m (length xs)))
    (λ (d : n ≡ m → ⊥). ap see (get_or-set_other xs m n x blank d) ∙ old ∙ sym (ap see (get_or-set_other ys m n y blank d)))
    (cases_eq n m)

pub lengths_after : {X : Type 0} (xs ys : List X) (m : ℕ) (x y : X) → length xs ≡ length ys → length (slice_set xs m x) ≡ length (slice_set ys m y)
lengths_after xs ys m x y few = length-set xs m x ∙ few ∙ sym (length-set ys m y)

module _ {Q : Type 0} (Part : Cell → Type 0) (part : Q → (c : Cell) → Part c) (S : Cell → Type 0) where
  abbrev Agrees : World Q → World Q → Type 0
  Agrees = Agree Part part S

  -- what the task at a place becomes in both states
  pub record Alike (n : ℕ) (r s : TaskRecord) : Type 0 where
    pub standing : standing r ≡ standing s
    pub wait : r.wait ≡ s.wait
    pub counts : S (CountsOf n) → tally r ≡ tally s

  pub agree_order : (v w : World Q) (x y : Q) → Same Part part S x y → Agrees v w → Agrees (record v { order = x }) (record w { order = y })
  agree_order v w x y same g = record { shape = g.shape; values = values; parts = same }
    where
      values : (c : Cell) → S c → value (record v { order = x }) c ≡ value (record w { order = y }) c
      values (OfTask n) h = g.values (OfTask n) h
      values c h = g.values c h

  pub agree_task : (v w : World Q) (t : Task) (r s : TaskRecord) → Alike (at t) r s → Agrees v w → Agrees (with_task v t r) (with_task w t s)
  agree_task v w t r s a g = record { shape = shape; values = values; parts = g.parts }
    where
      few : length v.tasks ≡ length w.tasks
      few = ap (λ (f : Frame). f.tasks) g.shape

      shape : frame (with_task v t r) ≡ frame (with_task w t s)
      shape = λ i. record (g.shape i) { tasks = lengths_after v.tasks w.tasks (at t) r s few i }

      values : (c : Cell) → S c → value (with_task v t r) c ≡ value (with_task w t s) c
      values (OfTask n) h = alike_after standing no_task v.tasks w.tasks (at t) r s n few (λ e. a.standing) (g.values (OfTask n) h)
      values (CountsOf n) h = alike_after tally no_task v.tasks w.tasks (at t) r s n few (λ e. a.counts (subst (λ i. S (CountsOf i)) e h)) (g.values (CountsOf n) h)
      values (WaitOf n) h = alike_after (λ (x : TaskRecord). x.wait) no_task v.tasks w.tasks (at t) r s n few (λ e. a.wait) (g.values (WaitOf n) h)
      values Shape h = shape
      values c h = g.values c h

  pub agree_left : (v w : World Q) (t : Task) (left : Option ℕ) → Agrees v w
      → Agrees (record v { waits_left = with_item v.waits_left t.number left }) (record w { waits_left = with_item w.waits_left t.number left })
  agree_left v w t left g = record { shape = shape; values = values; parts = g.parts }
    where
      few : length v.waits_left ≡ length w.waits_left
      few = ap (λ (f : Frame). f.waits_left) g.shape

      shape : frame (record v { waits_left = with_item v.waits_left t.number left }) ≡ frame (record w { waits_left = with_item w.waits_left t.number left })
      shape = λ i. record (g.shape i) { waits_left = lengths_after v.waits_left w.waits_left (at t) left left few i }

      values : (c : Cell) → S c
          → value (record v { waits_left = with_item v.waits_left t.number left }) c ≡ value (record w { waits_left = with_item w.waits_left t.number left }) c
      values (LeftOf n) h = alike_after (λ (x : Option ℕ). x) None v.waits_left w.waits_left (at t) left left n few (λ e. refl) (g.values (LeftOf n) h)
      values Shape h = shape
      values c h = g.values c h

  pub agree_semaphore : (v w : World Q) (o : Object) (x y : Semaphore) → x ≡ y → Agrees v w
      → Agrees (record v { semaphores = with_item v.semaphores o.number x }) (record w { semaphores = with_item w.semaphores o.number y })
  agree_semaphore v w o x y e g = record { shape = shape; values = values; parts = g.parts }
    where
      few : length v.semaphores ≡ length w.semaphores
      few = ap (λ (f : Frame). f.semaphores) g.shape

      shape : frame (record v { semaphores = with_item v.semaphores o.number x }) ≡ frame (record w { semaphores = with_item w.semaphores o.number y })
      shape = λ i. record (g.shape i) { semaphores = lengths_after v.semaphores w.semaphores (there o) x y few i }

      values : (c : Cell) → S c
          → value (record v { semaphores = with_item v.semaphores o.number x }) c ≡ value (record w { semaphores = with_item w.semaphores o.number y }) c
      values (OfSemaphore n) h = alike_after (λ (x : Semaphore). x) blank_semaphore v.semaphores w.semaphores (there o) x y n few (λ _. e) (g.values (OfSemaphore n) h)
      values Shape h = shape
      values c h = g.values c h

  pub agree_eventflag : (v w : World Q) (o : Object) (x y : Eventflag) → x ≡ y → Agrees v w
      → Agrees (record v { eventflags = with_item v.eventflags o.number x }) (record w { eventflags = with_item w.eventflags o.number y })
  agree_eventflag v w o x y e g = record { shape = shape; values = values; parts = g.parts }
    where
      few : length v.eventflags ≡ length w.eventflags
      few = ap (λ (f : Frame). f.eventflags) g.shape

      shape : frame (record v { eventflags = with_item v.eventflags o.number x }) ≡ frame (record w { eventflags = with_item w.eventflags o.number y })
      shape = λ i. record (g.shape i) { eventflags = lengths_after v.eventflags w.eventflags (there o) x y few i }

      values : (c : Cell) → S c
          → value (record v { eventflags = with_item v.eventflags o.number x }) c ≡ value (record w { eventflags = with_item w.eventflags o.number y }) c
      values (OfEventflag n) h = alike_after (λ (x : Eventflag). x) blank_eventflag v.eventflags w.eventflags (there o) x y n few (λ _. e) (g.values (OfEventflag n) h)
      values Shape h = shape
      values c h = g.values c h

  pub agree_processor : (v w : World Q) (p : Proc) (x y : Processor) → (S (OfProcessor (on p)) → unlatched x ≡ unlatched y) → (S (LatchOf (on p)) → x.latch ≡ y.latch)
      → Agrees v w
      → Agrees (with_processor v p x) (with_processor w p y)
  agree_processor v w p x y same latch g = record { shape = shape; values = values; parts = g.parts }
    where
      few : length v.processors ≡ length w.processors
      few = ap (λ (f : Frame). f.processors) g.shape

      shape : frame (with_processor v p x) ≡ frame (with_processor w p y)
      shape = λ i. record (g.shape i) { processors = lengths_after v.processors w.processors (on p) x y few i }

      values : (c : Cell) → S c → value (with_processor v p x) c ≡ value (with_processor w p y) c
      values (OfProcessor n) h =
          alike_after unlatched no_processor v.processors w.processors (on p) x y n few (λ e. same (subst (λ i. S (OfProcessor i)) e h)) (g.values (OfProcessor n) h)
      values (LatchOf n) h =
          alike_after (λ (c : Processor). c.latch) no_processor v.processors w.processors (on p) x y n few (λ e. latch (subst (λ i. S (LatchOf i)) e h))
          (g.values (LatchOf n) h)
      values Shape h = shape
      values c h = g.values c h

  pub agree_contents : (v w : World Q) (o : Object) (x y : List ℤ) → x ≡ y → Agrees v w
      → Agrees (record v { contents = with_item v.contents o.number x }) (record w { contents = with_item w.contents o.number y })
  agree_contents v w o x y e g = record { shape = shape; values = values; parts = g.parts }
    where
      few : length v.contents ≡ length w.contents
      few = ap (λ (f : Frame). f.contents) g.shape

      shape : frame (record v { contents = with_item v.contents o.number x }) ≡ frame (record w { contents = with_item w.contents o.number y })
      shape = λ i. record (g.shape i) { contents = lengths_after v.contents w.contents (there o) x y few i }

      values : (c : Cell) → S c → value (record v { contents = with_item v.contents o.number x }) c ≡ value (record w { contents = with_item w.contents o.number y }) c
      values (OfDataQueue n) h = alike_after (λ (x : List ℤ). x) [] v.contents w.contents (there o) x y n few (λ _. e) (g.values (OfDataQueue n) h)
      values Shape h = shape
      values c h = g.values c h

  pub agree_pool : (v w : World Q) (o : Object) (x y : Pool) → x ≡ y → Agrees v w
      → Agrees (record v { pools = with_item v.pools o.number x }) (record w { pools = with_item w.pools o.number y })
  agree_pool v w o x y e g = record { shape = shape; values = values; parts = g.parts }
    where
      few : length v.pools ≡ length w.pools
      few = ap (λ (f : Frame). f.pools) g.shape

      shape : frame (record v { pools = with_item v.pools o.number x }) ≡ frame (record w { pools = with_item w.pools o.number y })
      shape = λ i. record (g.shape i) { pools = lengths_after v.pools w.pools (there o) x y few i }

      values : (c : Cell) → S c → value (record v { pools = with_item v.pools o.number x }) c ≡ value (record w { pools = with_item w.pools o.number y }) c
      values (OfPool n) h = alike_after (λ (x : Pool). x) blank_pool v.pools w.pools (there o) x y n few (λ _. e) (g.values (OfPool n) h)
      values Shape h = shape
      values c h = g.values c h

  pub agree_cyclic : (v w : World Q) (o : Object) (x y : Cyclic) → x ≡ y → Agrees v w
      → Agrees (record v { cyclics = with_item v.cyclics o.number x }) (record w { cyclics = with_item w.cyclics o.number y })
  agree_cyclic v w o x y e g = record { shape = shape; values = values; parts = g.parts }
    where
      few : length v.cyclics ≡ length w.cyclics
      few = ap (λ (f : Frame). f.cyclics) g.shape

      shape : frame (record v { cyclics = with_item v.cyclics o.number x }) ≡ frame (record w { cyclics = with_item w.cyclics o.number y })
      shape = λ i. record (g.shape i) { cyclics = lengths_after v.cyclics w.cyclics (there o) x y few i }

      values : (c : Cell) → S c → value (record v { cyclics = with_item v.cyclics o.number x }) c ≡ value (record w { cyclics = with_item w.cyclics o.number y }) c
      values (OfCyclic n) h =
          λ i. (
            alike_after (λ (x : Cyclic). x) blank_cyclic v.cyclics w.cyclics (there o) x y n few (λ _. e) (ap (λ x. x.0) (g.values (OfCyclic n) h)) i,
            (g.values (OfCyclic n) h i).1,
          )
      values Shape h = shape
      values c h = g.values c h

  pub agree_cyclic_left : (v w : World Q) (o : Object) (x y : Option ℕ) → x ≡ y → Agrees v w
      → Agrees (record v { cyclics_left = with_item v.cyclics_left o.number x }) (record w { cyclics_left = with_item w.cyclics_left o.number y })
  agree_cyclic_left v w o x y e g = record { shape = shape; values = values; parts = g.parts }
    where
      few : length v.cyclics_left ≡ length w.cyclics_left
      few = ap (λ (f : Frame). f.cyclics_left) g.shape

      shape : frame (record v { cyclics_left = with_item v.cyclics_left o.number x }) ≡ frame (record w { cyclics_left = with_item w.cyclics_left o.number y })
      shape = λ i. record (g.shape i) { cyclics_left = lengths_after v.cyclics_left w.cyclics_left (there o) x y few i }

      values : (c : Cell) → S c
          → value (record v { cyclics_left = with_item v.cyclics_left o.number x }) c ≡ value (record w { cyclics_left = with_item w.cyclics_left o.number y }) c
      values (OfCyclic n) h =
          λ i. (
            (g.values (OfCyclic n) h i).0,
            alike_after (λ (x : Option ℕ). x) None v.cyclics_left w.cyclics_left (there o) x y n few (λ _. e)
                (ap (λ x. x.1) (g.values (OfCyclic n) h)) i,
          )
      values Shape h = shape
      values c h = g.values c h

  pub agree_alarm : (v w : World Q) (o : Object) (x y : Alarm) → x ≡ y → Agrees v w
      → Agrees (record v { alarms = with_item v.alarms o.number x }) (record w { alarms = with_item w.alarms o.number y })
  agree_alarm v w o x y e g = record { shape = shape; values = values; parts = g.parts }
    where
      few : length v.alarms ≡ length w.alarms
      few = ap (λ (f : Frame). f.alarms) g.shape

      shape : frame (record v { alarms = with_item v.alarms o.number x }) ≡ frame (record w { alarms = with_item w.alarms o.number y })
      shape = λ i. record (g.shape i) { alarms = lengths_after v.alarms w.alarms (there o) x y few i }

      values : (c : Cell) → S c → value (record v { alarms = with_item v.alarms o.number x }) c ≡ value (record w { alarms = with_item w.alarms o.number y }) c
      values (OfAlarm n) h =
          λ i. (
            alike_after (λ (x : Alarm). x) blank_alarm v.alarms w.alarms (there o) x y n few (λ _. e) (ap (λ x. x.0) (g.values (OfAlarm n) h)) i,
            (g.values (OfAlarm n) h i).1,
          )
      values Shape h = shape
      values c h = g.values c h

  pub agree_alarm_left : (v w : World Q) (o : Object) (x y : Option ℕ) → x ≡ y → Agrees v w
      → Agrees (record v { alarms_left = with_item v.alarms_left o.number x }) (record w { alarms_left = with_item w.alarms_left o.number y })
  agree_alarm_left v w o x y e g = record { shape = shape; values = values; parts = g.parts }
    where
      few : length v.alarms_left ≡ length w.alarms_left
      few = ap (λ (f : Frame). f.alarms_left) g.shape

      shape : frame (record v { alarms_left = with_item v.alarms_left o.number x }) ≡ frame (record w { alarms_left = with_item w.alarms_left o.number y })
      shape = λ i. record (g.shape i) { alarms_left = lengths_after v.alarms_left w.alarms_left (there o) x y few i }

      values : (c : Cell) → S c
          → value (record v { alarms_left = with_item v.alarms_left o.number x }) c ≡ value (record w { alarms_left = with_item w.alarms_left o.number y }) c
      values (OfAlarm n) h =
          λ i. (
            (g.values (OfAlarm n) h i).0,
            alike_after (λ (x : Option ℕ). x) None v.alarms_left w.alarms_left (there o) x y n few (λ _. e)
                (ap (λ x. x.1) (g.values (OfAlarm n) h)) i,
          )
      values Shape h = shape
      values c h = g.values c h

  pub agree_lock : (v w : World Q) (o : Object) (x y : Option Proc) → x ≡ y → Agrees v w
      → Agrees (record v { holders = with_item v.holders o.number x }) (record w { holders = with_item w.holders o.number y })
  agree_lock v w o x y e g = record { shape = shape; values = values; parts = g.parts }
    where
      few : length v.holders ≡ length w.holders
      few = ap (λ (f : Frame). f.holders) g.shape

      shape : frame (record v { holders = with_item v.holders o.number x }) ≡ frame (record w { holders = with_item w.holders o.number y })
      shape = λ i. record (g.shape i) { holders = lengths_after v.holders w.holders (there o) x y few i }

      values : (c : Cell) → S c → value (record v { holders = with_item v.holders o.number x }) c ≡ value (record w { holders = with_item w.holders o.number y }) c
      values (OfLock n) h = alike_after (λ (x : Option Proc). x) None v.holders w.holders (there o) x y n few (λ _. e) (g.values (OfLock n) h)
      values Shape h = shape
      values c h = g.values c h

  pub agree_due : (v w : World Q) (p : Proc) (x y : List Runner) → x ≡ y → Agrees v w
      → Agrees (record v { due = with_item v.due p.number x }) (record w { due = with_item w.due p.number y })
  agree_due v w p x y e g = record { shape = shape; values = values; parts = g.parts }
    where
      few : length v.due ≡ length w.due
      few = ap (λ (f : Frame). f.due) g.shape

      shape : frame (record v { due = with_item v.due p.number x }) ≡ frame (record w { due = with_item w.due p.number y })
      shape = λ i. record (g.shape i) { due = lengths_after v.due w.due (on p) x y few i }

      values : (c : Cell) → S c → value (record v { due = with_item v.due p.number x }) c ≡ value (record w { due = with_item w.due p.number y }) c
      values (DueOn n) h = alike_after (λ (x : List Runner). x) [] v.due w.due (on p) x y n few (λ _. e) (g.values (DueOn n) h)
      values Shape h = shape
      values c h = g.values c h

  -- p holds no lock any more
  pub agree_freed : (v w : World Q) (p : Proc) → Agrees v w
      → Agrees (record v { holders = map (λ h. if is_at p h then None else h) v.holders }) (record w { holders = map (λ h. if is_at p h then None else h) w.holders })
  agree_freed v w p g = record { shape = shape; values = values; parts = g.parts }
    where
      freed : Option Proc → Option Proc
      freed h = if is_at p h then None else h

      mapped : (xs : List (Option Proc)) (n : ℕ) → slice_index_or (map freed xs) n None ≡ freed (slice_index_or xs n None)
      mapped [] n = refl
      mapped (x ∷ xs) zero = refl
      mapped (x ∷ xs) (suc n) = mapped xs n

      shape : frame (record v { holders = map freed v.holders }) ≡ frame (record w { holders = map freed w.holders })
      shape = λ i. record (g.shape i) { holders = (length-map v.holders freed ∙ ap (λ (f : Frame). f.holders) g.shape ∙ sym (length-map w.holders freed)) i }

      values : (c : Cell) → S c → value (record v { holders = map freed v.holders }) c ≡ value (record w { holders = map freed w.holders }) c
      values (OfLock n) h = mapped v.holders n ∙ ap freed (g.values (OfLock n) h) ∙ sym (mapped w.holders n)
      values Shape h = shape
      values c h = g.values c h

  -- The words.

  runnable_alike : (r s : TaskRecord) → standing r ≡ standing s → r.wait ≡ s.wait → is_runnable r ≡ is_runnable s
  runnable_alike r s stands waits = λ i. (stands i).active && not (is_some (waits i)) && not (stands i).suspended

  module _ (k : Ordering Q) (reads : ReadsCells Part part S k) where
    departs_alike : (q r : Q) (x y : TaskRecord) (t : Task) → standing x ≡ standing y → x.wait ≡ y.wait → Same Part part S q r
        → Same Part part S (depart k q x t) (depart k r y t)
    departs_alike q r x y t stands waits same =
        if_alike (Same Part part S) (is_runnable x) (is_runnable y) (runnable_alike x y stands waits) (reads.take_out q r x y t stands same) same

    arrives_alike : (q r : Q) (x y : TaskRecord) (t : Task) → standing x ≡ standing y → x.wait ≡ y.wait → Same Part part S q r
        → Same Part part S (arrive k q x t) (arrive k r y t)
    arrives_alike q r x y t stands waits same =
        if_alike (Same Part part S) (is_runnable x) (is_runnable y) (runnable_alike x y stands waits) (reads.put_last q r x y t stands same) same

    pub place_alike : (v w : World Q) (t : Task) (r s : TaskRecord) → Knows S t → Alike (at t) r s → Agrees v w → Agrees (place k v t r) (place k w t s)
    place_alike v w t r s h a g =
        let stands = g.values (OfTask (at t)) h.0 in
        let waits = g.values (WaitOf (at t)) h.1 in
        agree_order (with_task v t r) (with_task w t s) _ _
        (arrives_alike _ _ r s t a.standing a.wait (departs_alike v.order w.order (task v t) (task w t) t stands waits g.parts))
        (agree_task v w t r s a g)

    pub ready_alike : (v w : World Q) (t : Task) → Knows S t → Agrees v w → Agrees (make_ready k v t) (make_ready k w t)
    ready_alike v w t h g =
        let stands = g.values (OfTask (at t)) h.0 in
        let waits = g.values (WaitOf (at t)) h.1 in
        let u : World Q = record v { order = k.leave v.order (task v t) t } in
        let x : World Q = record w { order = k.leave w.order (task w t) t } in
        let left = agree_left u x t None (agree_order v w _ _ (reads.leave v.order w.order (task v t) (task w t) t waits g.parts) g) in
        place_alike (record u { waits_left = with_item v.waits_left t.number None }) (record x { waits_left = with_item w.waits_left t.number None }) t
        (record (task v t) { wait = None }) (record (task w t) { wait = None }) h
        (record { standing = stands; wait = refl; counts = λ c. g.values (CountsOf (at t)) c }) left

    pub begin_alike : (v w : World Q) (t : Task) (x : Wait) (left : Option ℕ) → Knows S t → order_of v x ≡ order_of w x → Agrees v w
        → Agrees (begin_wait k v t x left) (begin_wait k w t x left)
    begin_alike v w t x left h orders g =
        let stands = g.values (OfTask (at t)) h.0 in
        let waits = g.values (WaitOf (at t)) h.1 in
        let r : TaskRecord = record (task v t) { wait = Some x } in
        let s : TaskRecord = record (task w t) { wait = Some x } in
        let q : Q = depart k v.order (task v t) t in
        let o : Q = depart k w.order (task w t) t in
        agree_order (record (with_task v t r) { waits_left = with_item v.waits_left t.number left })
        (record (with_task w t s) { waits_left = with_item w.waits_left t.number left })
        (k.join q (order_of v x) r left t) (k.join o (order_of w x) s left t)
        (subst (λ (y : Order). Same Part part S (k.join q (order_of v x) r left t) (k.join o y s left t)) orders
        (reads.join q o (order_of v x) r s left t stands refl (departs_alike v.order w.order (task v t) (task w t) t stands waits g.parts)))
        (agree_left (with_task v t r) (with_task w t s) t left
        (agree_task v w t r s (record { standing = stands; wait = refl; counts = λ c. g.values (CountsOf (at t)) c }) g))

    pub end_alike : (v w : World Q) (t : Task) (r s : TaskRecord) → Knows S t → Alike (at t) r s → Agrees v w → Agrees (end_wait k v t r) (end_wait k w t s)
    end_alike v w t r s h a g =
        let waits = g.values (WaitOf (at t)) h.1 in
        let u : World Q = record v { order = k.leave v.order (task v t) t } in
        let x : World Q = record w { order = k.leave w.order (task w t) t } in
        place_alike (record u { waits_left = with_item v.waits_left t.number None }) (record x { waits_left = with_item w.waits_left t.number None }) t r s h a
        (agree_left u x t None
        (agree_order v w (k.leave v.order (task v t) t) (k.leave w.order (task w t) t) (reads.leave v.order w.order (task v t) (task w t) t waits g.parts) g))

    rejoin_alike : (q r : Q) (o : Order) (x y : TaskRecord) (left : Option ℕ) (t : Task) → standing x ≡ standing y → x.wait ≡ y.wait → Same Part part S q r
        → Same Part part S (rejoin k q o x left t) (rejoin k r o y left t)
    rejoin_alike q r order.First x y left t stands waits same = same
    rejoin_alike q r order.Priority x y left t stands waits same =
        reads.join (k.leave q x t) (k.leave r y t) order.Priority x y left t stands waits (reads.leave q r x y t waits same)

    last_alike : (v w : World Q) (t : Task) (r s : TaskRecord) (o : Option Wait) → Knows S t → S (LeftOf (at t)) → ((x : Wait) → o ≡ Some x → order_of v x ≡ order_of w x)
        → Alike (at t) r s → Agrees v w → Same Part part S (put_last k v t r o) (put_last k w t s o)
    last_alike v w t r s None h left orders a g =
        arrives_alike (depart k v.order (task v t) t) (depart k w.order (task w t) t) r s t a.standing a.wait
        (departs_alike v.order w.order (task v t) (task w t) t (g.values (OfTask (at t)) h.0) (g.values (WaitOf (at t)) h.1) g.parts)
    last_alike v w t r s (Some x) h left orders a g =
        subst (λ (o : Order). Same Part part S (put_last k v t r (Some x)) (rejoin k w.order o s (item None w.waits_left t.number) t)) (orders x refl)
        (subst (λ (n : Option ℕ). Same Part part S (put_last k v t r (Some x)) (rejoin k w.order (order_of v x) s n t)) (g.values (LeftOf (at t)) left)
        (rejoin_alike v.order w.order (order_of v x) r s (item None v.waits_left t.number) t a.standing a.wait g.parts))

    pub requeue_alike : (v w : World Q) (t : Task) (r s : TaskRecord) → Knows S t → S (LeftOf (at t))
        → ((x : Wait) → (task w t).wait ≡ Some x → order_of v x ≡ order_of w x)
        → Alike (at t) r s → Agrees v w → Agrees (requeue k v t r) (requeue k w t s)
    requeue_alike v w t r s h left orders a g =
        agree_order (with_task v t r) (with_task w t s) (put_last k v t r (task v t).wait) (put_last k w t s (task w t).wait)
        (subst (λ o. Same Part part S (put_last k v t r o) (put_last k w t s (task w t).wait)) (sym (g.values (WaitOf (at t)) h.1))
        (last_alike v w t r s (task w t).wait h left orders a g))
        (agree_task v w t r s a g)
