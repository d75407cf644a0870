-- How a record frames what its event did, before it is known what runs and who is sent a request.
use Rattle.std.proofs.Common.{◌≡◌, ℕ, Bool, true, false, not, ◌&&◌, List, [], Option, None, map, refl, ap}
use Rattle.std.specs.Prelude.{zero, suc, ◌∷◌, slice_index_or}
use Rattle.std.proofs.lemmas.List.{ext_get_or}
use Rattle.fmp_codes.specs.declared.numbers.Proc.{Proc}
use Rattle.fmp_codes.specs.declared.numbers.Task.{Task}
use Rattle.fmp_codes.specs.declared.records.Event.{Event}
use Rattle.fmp_codes.specs.declared.records.Record.{Record}
use Rattle.fmp_codes.specs.declared.records.Runner.{Runner}
use Rattle.fmp_rules.specs.Effects.{Effect}
use Rattle.fmp_rules.specs.declared.machine.Processor.{Processor}
use Rattle.fmp_rules.specs.World.{World}
use Rattle.fmp_rules.specs.Objects.{blank_eventflag, blank_pool, blank_semaphore}
use Rattle.fmp_law_footprint.specs.Cells.{Cell, DueOn, OfSemaphore, OfEventflag, OfDataQueue, OfPool, OfCyclic, OfAlarm, OfLock, Shape, blank_alarm, blank_cyclic, value}
use Rattle.fmp_law_footprint.specs.Shapes as shapes
use Rattle.fmp_law_footprint.specs.Frames.{Frame, is_idle, is_on_buffers, is_on_due, is_on_locks, is_on_sync, is_on_time, moves_order, moves_tasks, moves_waits, running_of}

pub mapped_item : {X Y : Type 0} (f : X → Y) (xs : List X) (i : ℕ) (or : X) → slice_index_or (map f xs) i (f or) ≡ f (slice_index_or xs i or)
mapped_item f [] i or = refl
mapped_item f (x ∷ xs) zero or = refl
mapped_item f (x ∷ xs) (suc i) or = mapped_item f xs i or

-- the record of an event that did this
abbrev pub report : Event → Option Runner → Effect → Record
report e r did = record { event = e; runner = r; answer = did.answer; releases = did.releases; lost = did.lost; run_change = None; requests = [] }

-- the event is one that may change an object, a due handler or who holds a spin lock
abbrev pub touches : Event → Cell → Bool
touches e (DueOn n) = is_on_due e
touches e (OfLock n) = is_on_locks e
touches e (OfSemaphore n) = is_on_sync e
touches e (OfEventflag n) = is_on_sync e
touches e (OfDataQueue n) = is_on_buffers e
touches e (OfPool n) = is_on_buffers e
touches e (OfCyclic n) = is_on_time e
touches e (OfAlarm n) = is_on_time e
touches e other = true

module _ {Q : Type 0} (w : World Q) (e : Event) (r : Option Runner) where
  -- A record of what was done frames it, whatever processors are made of it and whatever is told of that.
  abbrev pub IsFramed : World Q × Effect → Type 0
  IsFramed did =
      (cs : List Processor) (o : Option (Option Task)) (qs : List Proc)
      → (moves_tasks (report e r did.1) ≡ false → o ≡ None → map (λ (p : Processor). p.running) cs ≡ running_of w)
      → Frame w (record (report e r did.1) { run_change = o; requests = qs }) (record did.0 { processors = cs })

  -- and where tasks stay every processor runs what it ran
  abbrev pub DidFrom : World Q × Effect → Type 0
  DidFrom did = IsFramed did × (moves_tasks (report e r did.1) ≡ false → running_of did.0 ≡ running_of w)

  -- What no event changes stays, and so do other objects, tasks, their order and what is left of their waits, unless the record says that they may change.
  pub framed : (did : World Q × Effect) → value did.0 Shape ≡ value w Shape
      → ((x : Cell) → (not (is_idle did.1.answer) && touches e x) ≡ false → value did.0 x ≡ value w x)
      → (moves_tasks (report e r did.1) ≡ false → did.0.tasks ≡ w.tasks) → (moves_order (report e r did.1) ≡ false → did.0.order ≡ w.order)
      → (moves_waits (report e r did.1) ≡ false → did.0.waits_left ≡ w.waits_left) → IsFramed did
  framed did shape stays tasks order waits cs o qs runs =
      let v : World Q = did.0 in
      let many : (f : shapes.Frame → ℕ) → f (shapes.frame v) ≡ f (shapes.frame w) = λ f. ap f shape in
      record {
        tasks = tasks;
        running = runs;
        due = λ off. ext_get_or [] v.due w.due (many (λ f. f.due)) (λ n _. stays (DueOn n) off);
        holders = λ off. ext_get_or None v.holders w.holders (many (λ f. f.holders)) (λ n _. stays (OfLock n) off);
        order = order;
        timer = λ _. ap (λ (f : shapes.Frame). f.timer) shape;
        waits_left = waits;
        semaphores = λ off. ext_get_or blank_semaphore v.semaphores w.semaphores (many (λ f. f.semaphores)) (λ n _. stays (OfSemaphore n) off);
        eventflags = λ off. ext_get_or blank_eventflag v.eventflags w.eventflags (many (λ f. f.eventflags)) (λ n _. stays (OfEventflag n) off);
        data_queues = λ _. ap (λ (f : shapes.Frame). f.data_queues) shape;
        contents = λ off. ext_get_or [] v.contents w.contents (many (λ f. f.contents)) (λ n _. stays (OfDataQueue n) off);
        pools = λ off. ext_get_or blank_pool v.pools w.pools (many (λ f. f.pools)) (λ n _. stays (OfPool n) off);
        cyclics = λ off. ext_get_or blank_cyclic v.cyclics w.cyclics (many (λ f. f.cyclics)) (λ n _. ap (λ x. x.0) (stays (OfCyclic n) off));
        cyclics_left = λ off. ext_get_or None v.cyclics_left w.cyclics_left (many (λ f. f.cyclics_left)) (λ n _. ap (λ x. x.1) (stays (OfCyclic n) off));
        alarms = λ off. ext_get_or blank_alarm v.alarms w.alarms (many (λ f. f.alarms)) (λ n _. ap (λ x. x.0) (stays (OfAlarm n) off));
        alarms_left = λ off. ext_get_or None v.alarms_left w.alarms_left (many (λ f. f.alarms_left)) (λ n _. ap (λ x. x.1) (stays (OfAlarm n) off));
      }

  -- nothing was done
  pub did_nothing : (x : Effect) → DidFrom (w, x)
  did_nothing x = (framed (w, x) refl (λ c off. refl) (λ _. refl) (λ _. refl) (λ _. refl), λ _. refl)
