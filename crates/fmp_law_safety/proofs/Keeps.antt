-- What an event may do to a state before its end.
use Rattle.std.proofs.Common.{◌≡◌, ℕ, ℤ, ◌⊎◌, true, false, List, length, refl, sym, ap, ◌∙◌, subst, Option, Some, None}
use Rattle.std.specs.Prelude.{is_some, slice_index_or, option_map}
use Rattle.std.specs.Option.{option_or}
use Rattle.std.proofs.lemmas.List.{length-set}
use Rattle.fmp_codes.specs.declared.numbers.Proc.{Proc}
use Rattle.fmp_codes.specs.declared.numbers.Task.{Task}
use Rattle.fmp_codes.specs.declared.numbers.Object.{Object}
use Rattle.fmp_codes.specs.declared.records.Runner.{Runner}
use Rattle.fmp_rules.specs.declared.machine.TaskRecord.{TaskRecord}
use Rattle.fmp_rules.specs.declared.machine.Processor.{Processor}
use Rattle.fmp_rules.specs.declared.machine.Wait.{Wait}
use Rattle.fmp_rules.specs.declared.machine.Semaphore.{Semaphore}
use Rattle.fmp_rules.specs.declared.machine.Eventflag.{Eventflag}
use Rattle.fmp_rules.specs.declared.machine.Pool.{Pool}
use Rattle.fmp_rules.specs.declared.machine.Cyclic.{Cyclic}
use Rattle.fmp_rules.specs.declared.machine.Alarm.{Alarm}
use Rattle.fmp_rules.specs.World.{World, no_task, no_processor, item, with_item, task, processor, handler, runner_of, is_held}
use Rattle.fmp_rules.specs.Objects.{holder}
use Rattle.fmp_law_safety.specs.Safe.{IsNumberOf, may_run_on, TaskInRange, TicksInRange, CountsInRange}
use Rattle.fmp_law_safety.proofs.Items.{task_at, place_same, item_after, item_same, item_other}
use Rattle.fmp_law_safety.proofs.Rests.{MayBegin, Rests, rests_task, rests_beside}

-- where dispatching on p is held or disabled, somebody is there
pub record Occupied {Q : Type 0} (w : World Q) (p : Proc) : Type 0 where
  pub held : is_held w p ≡ true → is_some (runner_of w p) ≡ true
  pub disabled : (processor w p).disabled ≡ true → is_some (processor w p).running ≡ true

-- From w to v an event on p changes no other processor, except that handlers may become due there. It ends, moves or makes
-- wait no task that another one may run, nor what p runs if p is held afterwards.
pub record KeepsOthers {Q : Type 0} (w v : World Q) (p : Proc) : Type 0 where
  pub processors : (q : Proc) → (q.number ≡ p.number → ⊥) → processor v q ≡ processor w q
  pub handlers : (q : Proc) → (q.number ≡ p.number → ⊥) → is_some (handler v q) ≡ false → is_some (handler w q) ≡ false
  pub count : length v.processors ≡ length w.processors
  pub running : (processor v p).running ≡ (processor w p).running
  pub others : (t : Task) (q : Proc) → (q.number ≡ p.number → ⊥) → may_run_on q (task w t) ≡ true → may_run_on q (task v t) ≡ true
  pub own : (t : Task) → is_held v p ≡ true → (processor w p).running ≡ Some t → may_run_on p (task w t) ≡ true → may_run_on p (task v t) ≡ true
  pub occupied : Occupied v p
  pub rests : Rests w → Rests v
  pub counts : Rests w → CountsInRange w → CountsInRange v

-- What the record of t may become by an event on p.
pub record Becomes {Q : Type 0} (w : World Q) (p : Proc) (t : Task) (r : TaskRecord) : Type 0 where
  pub others : (q : Proc) → (q.number ≡ p.number → ⊥) → may_run_on q (task w t) ≡ true → may_run_on q r ≡ true
  pub own : (processor w p).running ≡ Some t → is_held w p ≡ true → may_run_on p (task w t) ≡ true → may_run_on p r ≡ true
  pub waits : (x : Wait) → r.wait ≡ Some x → ((task w t).wait ≡ Some x) ⊎ MayBegin w x
  pub range : TaskInRange w.limits (task w t) → TaskInRange w.limits r

-- a runner, where a task runs
runner_there : (h : Option Runner) (o : Option Runner) → is_some o ≡ true → is_some (option_or h o) ≡ true
runner_there None o e = e
runner_there (Some x) o e = refl

pub mapped_some : {X Y : Type 0} (f : X → Y) (o : Option X) → is_some o ≡ true → is_some (option_map f o) ≡ true
mapped_some f None e = e
mapped_some f (Some x) e = refl

module _ {Q : Type 0} (w : World Q) (p : Proc) where
  -- where somebody may make calls and where it is disabled a task runs, p is occupied
  pub occupied_by_one : is_some (runner_of w p) ≡ true → ((processor w p).disabled ≡ true → is_some (processor w p).running ≡ true) → Occupied w p
  occupied_by_one e f = record { held = λ h. e; disabled = f }

  pub occupied_by_task : is_some (processor w p).running ≡ true → Occupied w p
  occupied_by_task e = occupied_by_one (runner_there (handler w p) _ (mapped_some _ (processor w p).running e)) (λ h. e)

  pub keeps_all : Occupied w p → KeepsOthers w w p
  keeps_all o = record {
    processors = λ q d. refl;
    handlers = λ q d none. none;
    count = refl;
    running = refl;
    others = λ t q d a. a;
    own = λ t h e a. a;
    occupied = o;
    rests = λ s. s;
    counts = λ s c. c;
  }

  -- one change after another, where the first ends, moves and makes wait nothing that p runs, if p is held in the end
  pub keeps_through : (u v : World Q) → ((t : Task) → is_held v p ≡ true → (processor w p).running ≡ Some t → may_run_on p (task w t) ≡ true → may_run_on p (task u t) ≡ true) →
      KeepsOthers w u p → KeepsOthers u v p → KeepsOthers w v p
  keeps_through u v still a b = record {
    processors = λ q d. b.processors q d ∙ a.processors q d;
    handlers = λ q d none. a.handlers q d (b.handlers q d none);
    count = b.count ∙ a.count;
    running = b.running ∙ a.running;
    others = λ t q d m. b.others t q d (a.others t q d m);
    own = λ t h r m. b.own t h (a.running ∙ r) (still t h r m);
    occupied = b.occupied;
    rests = λ s. b.rests (a.rests s);
    counts = λ s c. b.counts (a.rests s) (a.counts s c);
  }

  -- the first leaves the tasks alone
  pub keeps_then : (u v : World Q) → u.tasks ≡ w.tasks → KeepsOthers w u p → KeepsOthers u v p → KeepsOthers w v p
  keeps_then u v e = keeps_through u v (λ t h r m. subst (λ xs. may_run_on p (item no_task xs t.number) ≡ true) (sym e) m)

-- one task changes, and the way in which order is kept
pub keeps_task : {Q : Type 0} (w : World Q) (p : Proc) (t : Task) (r : TaskRecord) (left : List (Option ℕ)) (x : Q) → Becomes w p t r →
    Occupied w p → ((u : Task) → TicksInRange (item None w.waits_left u.number) → TicksInRange (item None left u.number)) →
    KeepsOthers w (record w { tasks = with_item w.tasks t.number r; waits_left = left; order = x }) p
keeps_task w p t r left x b o ticks = record {
  processors = λ q d. refl;
  handlers = λ q d none. none;
  count = refl;
  running = refl;
  others = λ u q d a.
      item_after no_task w.tasks t.number r (λ o. may_run_on q o ≡ true) u.number
      (λ e. b.others q d (subst (λ i. may_run_on q (slice_index_or w.tasks i no_task) ≡ true) e a)) a;
  own = λ u h e a.
      item_after no_task w.tasks t.number r (λ o. may_run_on p o ≡ true) u.number
      (λ i. b.own (e ∙ ap Some (task_at u t i)) h (subst (λ i. may_run_on p (slice_index_or w.tasks i no_task) ≡ true) i a)) a;
  occupied = record { held = o.held; disabled = o.disabled };
  rests = rests_task w t r left x b.waits b.range;
  counts = λ s c. record { waits = λ u. ticks u (c.waits u); cyclics = c.cyclics; alarms = c.alarms };
}

module _ {Q : Type 0} (w : World Q) (p : Proc) (within : IsNumberOf w.processors p.number) (f : Processor) (hs : List (Option Proc)) (due : List (List Runner)) where
  abbrev v : World Q
  v = record w { processors = with_item w.processors p.number f; due = due; holders = hs }

  pub processor_here : processor v p ≡ f
  processor_here = item_same no_processor w.processors p.number f within.0 within.1

  -- the record of p changes, but not what runs, and spin locks and due handlers
  pub keeps_processor : f.running ≡ (processor w p).running → Occupied v p →
      ((q : Proc) → (q.number ≡ p.number → ⊥) → is_some (handler v q) ≡ false → is_some (handler w q) ≡ false) →
      (Rests w → (l : Object) (q : Proc) → holder v l ≡ Some q → (processor v q).locked ≡ true) →
      (Rests w → (l m : Object) (q : Proc) → holder v l ≡ Some q → holder v m ≡ Some q → l.number ≡ m.number) → KeepsOthers w v p
  keeps_processor e occupied handlers locked one_lock = record {
    processors = λ q d. item_other no_processor w.processors p.number f q.number q.least p.least d;
    handlers = handlers;
    count = length-set w.processors _ f;
    running = ap (λ (c : Processor). c.running) processor_here ∙ e;
    others = λ t q d a. a;
    own = λ t h r a. a;
    occupied = occupied;
    rests = λ s.
        rests_beside w w.waits_left (with_item w.processors p.number f) due w.cyclics w.cyclics_left w.alarms w.alarms_left hs s.in_range.cyclics s.in_range.alarms
        (locked s) (one_lock s) s;
    counts = λ s c. record { waits = c.waits; cyclics = c.cyclics; alarms = c.alarms };
  }

  -- the same, where no other spin lock is held than before
  pub keeps_processor_freeing : f.running ≡ (processor w p).running → Occupied v p →
      ((q : Proc) → (q.number ≡ p.number → ⊥) → is_some (handler v q) ≡ false → is_some (handler w q) ≡ false) →
      (Rests w → (l : Object) (q : Proc) → holder v l ≡ Some q → (holder w l ≡ Some q) × (q.number ≡ p.number → f.locked ≡ true)) → KeepsOthers w v p
  keeps_processor_freeing e occupied handlers locks =
      keeps_processor e occupied handlers
      (λ s l q h.
      let old = locks s l q h in
      item_after no_processor w.processors p.number f (λ (c : Processor). c.locked ≡ true) q.number
      (λ i. old.1 (place_same q.number p.number q.least p.least i)) (s.in_range.locked l q old.0))
      (λ s l m q h i. s.in_range.one_lock l m q (locks s l q h).0 (locks s m q i).0)

-- the objects change, and so do cyclic handlers, alarms and the ticks that they have left
pub keeps_objects : {Q : Type 0} (w : World Q) (p : Proc) (ss : List Semaphore) (fs : List Eventflag) (vs : List (List ℤ)) (ms : List Pool) (cyclics : List Cyclic)
    (cyclics_left : List (Option ℕ)) (alarms : List Alarm) (alarms_left : List (Option ℕ)) → Occupied w p →
    (Rests w → Rests (record w { semaphores = ss; eventflags = fs; contents = vs; pools = ms; cyclics = cyclics; cyclics_left = cyclics_left; alarms = alarms; alarms_left = alarms_left })) →
    (Rests w → (c : Object) → TicksInRange (item None w.cyclics_left c.number) → TicksInRange (item None cyclics_left c.number)) →
    ((a : Object) → TicksInRange (item None w.alarms_left a.number) → TicksInRange (item None alarms_left a.number)) →
    KeepsOthers w (record w { semaphores = ss; eventflags = fs; contents = vs; pools = ms; cyclics = cyclics; cyclics_left = cyclics_left; alarms = alarms; alarms_left = alarms_left }) p
keeps_objects w p ss fs vs ms cyclics cyclics_left alarms alarms_left o rests cyc alm = record {
  processors = λ q d. refl;
  handlers = λ q d none. none;
  count = refl;
  running = refl;
  others = λ t q d a. a;
  own = λ t h e a. a;
  occupied = record { held = o.held; disabled = o.disabled };
  rests = rests;
  counts = λ s c. record { waits = c.waits; cyclics = λ h. cyc s h (c.cyclics h); alarms = λ h. alm h (c.alarms h) };
}
