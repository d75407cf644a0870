-- What is kept of the tasks and objects, whatever runs.
use Rattle.std.proofs.Common.{◌≡◌, ℕ, ◌⊎◌, inl, inr, true, false, List, refl, sym, ap, ◌∙◌, subst, Option, Some, None, ⊎_elim}
use Rattle.std.proofs.Math.Logic.{⊎_map}
use Rattle.std.specs.Prelude.{All, slice_index_or}
use Rattle.std.proofs.lemmas.Bool.{both_ways, eq-eqb, eqb-true, false_from_ne_true, false≢true}
use Rattle.fmp_codes.specs.declared.numbers.Proc.{Proc}
use Rattle.fmp_codes.specs.declared.numbers.Task.{Task}
use Rattle.fmp_codes.specs.declared.numbers.Object.{Object}
use Rattle.fmp_rules.specs.declared.machine.TaskRecord.{TaskRecord}
use Rattle.fmp_rules.specs.declared.machine.Processor.{Processor}
use Rattle.fmp_rules.specs.declared.machine.Wait.{Wait}
use Rattle.fmp_rules.specs.declared.machine.Wait.TheVariants as wait
use Rattle.fmp_rules.specs.declared.machine.QueueKind.{QueueKind}
use Rattle.fmp_rules.specs.declared.machine.QueueKind.TheVariants as kind
use Rattle.fmp_rules.specs.declared.machine.Cyclic.{Cyclic}
use Rattle.fmp_rules.specs.declared.machine.Alarm.{Alarm}
use Rattle.fmp_codes.specs.declared.records.Runner.{Runner}
use Rattle.fmp_codes.proofs.Same.{objects_same}
use Rattle.fmp_rules.specs.World.{World, no_task, no_processor, item, with_item, task, processor}
use Rattle.fmp_rules.specs.Objects.{eventflag, holder}
use Rattle.fmp_rules.specs.Ordering.{is_in, waits_in}
use Rattle.fmp_law_safety.specs.Safe.{MayWait, TaskInRange, CyclicInRange, AlarmInRange, InRange}
use Rattle.fmp_law_safety.proofs.Items.{task_at, item_after, all_after}

pub record Rests {Q : Type 0} (w : World Q) : Type 0 where
  pub waits : (t : Task) (x : Wait) → (task w t).wait ≡ Some x → MayWait w x
  pub in_range : InRange w

-- nobody waits who would have to be alone with this wait, or whom it would serve
abbrev pub Alone : {Q : Type 0} → World Q → Wait → Type 0
Alone w (wait.Eventflag f pattern mode) = (eventflag w f).setup.many ≡ false → (u : Task) → waits_in kind.Eventflag f (task w u).wait ≡ false
Alone w (wait.Send d value) = (u : Task) → waits_in kind.Receive d (task w u).wait ≡ false
Alone w other = Unit {0}

-- a task may begin to wait for this
abbrev pub MayBegin : {Q : Type 0} → World Q → Wait → Type 0
MayBegin w x = MayWait w x × Alone w x

module _ {Q : Type 0} (w : World Q) where
  sender_alone : (d : Object) (x : Wait) → is_in kind.Send d x ≡ true → Alone w x → (u : Task) → waits_in kind.Receive d (task w u).wait ≡ false
  sender_alone d (wait.Send e value) same alone =
      subst (λ (o : Object). (u : Task) → waits_in kind.Receive o (task w u).wait ≡ false) (objects_same e d (eqb-true e.number d.number same)) alone
  sender_alone d wait.Sleep same alone = absurd (false≢true same)
  sender_alone d wait.Delay same alone = absurd (false≢true same)
  sender_alone d (wait.Semaphore s) same alone = absurd (false≢true same)
  sender_alone d (wait.Eventflag f pattern mode) same alone = absurd (false≢true same)
  sender_alone d (wait.Receive e) same alone = absurd (false≢true same)
  sender_alone d (wait.Pool m) same alone = absurd (false≢true same)

  waiter_alone : (f : Object) (x : Wait) → is_in kind.Eventflag f x ≡ true → Alone w x → (eventflag w f).setup.many ≡ false → (u : Task) → waits_in kind.Eventflag f (task w u).wait ≡ false
  waiter_alone f (wait.Eventflag g pattern mode) same alone =
      subst (λ (o : Object). (eventflag w o).setup.many ≡ false → (u : Task) → waits_in kind.Eventflag o (task w u).wait ≡ false)
      (objects_same g f (eqb-true g.number f.number same)) alone
  waiter_alone f wait.Sleep same alone = absurd (false≢true same)
  waiter_alone f wait.Delay same alone = absurd (false≢true same)
  waiter_alone f (wait.Semaphore s) same alone = absurd (false≢true same)
  waiter_alone f (wait.Send d value) same alone = absurd (false≢true same)
  waiter_alone f (wait.Receive d) same alone = absurd (false≢true same)
  waiter_alone f (wait.Pool m) same alone = absurd (false≢true same)

-- who waits in a queue waits for something
wait_in : (k : QueueKind) (o : Object) (a : Option Wait) → waits_in k o a ≡ true → (x : Wait) × (a ≡ Some x) × (is_in k o x ≡ true)
wait_in k o None e = absurd (false≢true e)
wait_in k o (Some x) e = (x, refl, e)

module _ {Q : Type 0} (w : World Q) (t : Task) (r : TaskRecord) (left : List (Option ℕ)) (q : Q) (begins : (x : Wait) → r.wait ≡ Some x → ((task w t).wait ≡ Some x) ⊎ MayBegin w x) where
  abbrev v : World Q
  v = record w { tasks = with_item w.tasks t.number r; waits_left = left; order = q }

  -- a wait is an old one, or that which t begins
  wait_before : (u : Task) (x : Wait) → (task v u).wait ≡ Some x → ((task w u).wait ≡ Some x) ⊎ ((u ≡ t) × MayBegin w x)
  wait_before u x =
      item_after no_task w.tasks t.number r (λ o. o.wait ≡ Some x → ((task w u).wait ≡ Some x) ⊎ ((u ≡ t) × MayBegin w x)) u.number
      (λ i h. ⊎_map (λ old. subst (λ i. (slice_index_or w.tasks i no_task).wait ≡ Some x) (sym i) old) (λ new. (task_at u t i, new)) (begins x h)) (λ h. inl h)

  abbrev Begins : QueueKind → Object → Task → Type 0
  Begins k o u = (x : Wait) × (u ≡ t) × MayBegin w x × (is_in k o x ≡ true)

  queue_before : (k : QueueKind) (o : Object) (u : Task) → waits_in k o (task v u).wait ≡ true → (waits_in k o (task w u).wait ≡ true) ⊎ Begins k o u
  queue_before k o u e =
      let there = wait_in k o (task v u).wait e in
      ⊎_map (λ old. subst (λ a. waits_in k o a ≡ true) (sym old) there.2) (λ new. (there.0, new.0, new.1, there.2)) (wait_before u there.0 there.1)

  -- where somebody waits to receive, nobody begins to send
  no_sender : (d : Object) (u : Task) → (task v u).wait ≡ Some (wait.Receive d) → (a : Task) → waits_in kind.Send d (task v a).wait ≡ true → Begins kind.Send d a → ⊥
  no_sender d u receives a sends (x, here, may, same) =
      ⊎_elim
      (λ (old : (task w u).wait ≡ Some (wait.Receive d)).
      both_ways _ (sender_alone w d x same may.1 u) (subst (λ o. waits_in kind.Receive d o ≡ true) (sym old) (eq-eqb d.number d.number refl)))
      (λ (new : (u ≡ t) × MayBegin w (wait.Receive d)).
      false≢true (subst (λ o. waits_in kind.Send d o ≡ true) (ap (λ (i : Task). (task v i).wait) (here ∙ sym new.0) ∙ receives) sends))
      (wait_before u (wait.Receive d) receives)

  may_wait : (u : Task) (x : Wait) → (task v u).wait ≡ Some x → MayWait w x → MayWait v x
  may_wait u wait.Sleep e h = h
  may_wait u wait.Delay e h = h
  may_wait u (wait.Semaphore s) e h = h
  may_wait u (wait.Eventflag f pattern mode) e h = h
  may_wait u (wait.Send d value) e h = h
  may_wait u (wait.Receive d) e h =
      (h.0, λ a. false_from_ne_true _ (λ sends. ⊎_elim (λ old. both_ways _ (h.1 a) old) (no_sender d u e a sends) (queue_before kind.Send d a sends)))
  may_wait u (wait.Pool m) e h = h

  one_waiter : Rests w → (f : Object) → (eventflag w f).setup.many ≡ false → (a b : Task) →
      ((waits_in kind.Eventflag f (task w a).wait ≡ true) ⊎ Begins kind.Eventflag f a) → ((waits_in kind.Eventflag f (task w b).wait ≡ true) ⊎ Begins kind.Eventflag f b) →
      ((waits_in kind.Eventflag f (task w a).wait ≡ true) → (waits_in kind.Eventflag f (task w b).wait ≡ true) → a.number ≡ b.number) → a.number ≡ b.number
  one_waiter s f one a b (inl c) (inl d) both = both c d
  one_waiter s f one a b (inl c) (inr (x, here, may, same)) both = absurd (both_ways _ (waiter_alone w f x same may.1 one a) c)
  one_waiter s f one a b (inr (x, here, may, same)) (inl d) both = absurd (both_ways _ (waiter_alone w f x same may.1 one b) d)
  one_waiter s f one a b (inr c) (inr d) both = ap (λ (u : Task). u.number) (c.1 ∙ sym d.1)

  -- one task changes, and its wait is the old one or one that it may begin
  pub rests_task : (TaskInRange w.limits (task w t) → TaskInRange w.limits r) → Rests w → Rests v
  rests_task range s = record {
    waits = λ u x e. may_wait u x e (⊎_elim (λ old. s.waits u x old) (λ new. new.1.0) (wait_before u x e));
    in_range = record {
      tasks = all_after no_task w.tasks t.number r (TaskInRange w.limits) range s.in_range.tasks;
      semaphores = s.in_range.semaphores;
      contents = s.in_range.contents;
      one_waiter = λ f a b n one c d.
          one_waiter s f one a b (queue_before kind.Eventflag f a c) (queue_before kind.Eventflag f b d) (s.in_range.one_waiter f a b n one);
      cyclics = s.in_range.cyclics;
      alarms = s.in_range.alarms;
      locked = s.in_range.locked;
      one_lock = s.in_range.one_lock;
    };
  }

-- Something changes besides the tasks and what they wait for.
module _ {Q : Type 0} (w : World Q) (left : List (Option ℕ)) (cs : List Processor) (due : List (List Runner)) (cyclics : List Cyclic) (cyclics_left : List (Option ℕ)) (alarms : List Alarm) (alarms_left : List (Option ℕ)) (hs : List (Option Proc)) where
  abbrev beside : World Q
  beside = record w { waits_left = left; processors = cs; due = due; cyclics = cyclics; cyclics_left = cyclics_left; alarms = alarms; alarms_left = alarms_left; holders = hs }

  may_still : (y : Wait) → MayWait w y → MayWait beside y
  may_still wait.Sleep e = e
  may_still wait.Delay e = e
  may_still (wait.Semaphore o) e = e
  may_still (wait.Eventflag f pattern mode) e = e
  may_still (wait.Send d value) e = e
  may_still (wait.Receive d) e = e
  may_still (wait.Pool m) e = e

  pub rests_beside : All (CyclicInRange w.timer) cyclics → All (AlarmInRange w.timer) alarms →
      ((l : Object) (q : Proc) → holder beside l ≡ Some q → (processor beside q).locked ≡ true) →
      ((l m : Object) (q : Proc) → holder beside l ≡ Some q → holder beside m ≡ Some q → l.number ≡ m.number) → Rests w → Rests beside
  rests_beside cyclics alarms locked one_lock s = record {
    waits = λ t y e. may_still y (s.waits t y e);
    in_range = record {
      tasks = s.in_range.tasks;
      semaphores = s.in_range.semaphores;
      contents = s.in_range.contents;
      one_waiter = s.in_range.one_waiter;
      cyclics = cyclics;
      alarms = alarms;
      locked = locked;
      one_lock = one_lock;
    };
  }

-- the processors change, and spin locks may be freed
pub rests_processors : {Q : Type 0} (w : World Q) (cs : List Processor) (hs : List (Option Proc)) →
    ((l : Object) (q : Proc) → item None hs l.number ≡ Some q → (holder w l ≡ Some q) × ((item no_processor cs q.number).locked ≡ true)) →
    Rests w → Rests (record w { processors = cs; holders = hs })
rests_processors w cs hs locks s =
    rests_beside w w.waits_left cs w.due w.cyclics w.cyclics_left w.alarms w.alarms_left hs s.in_range.cyclics s.in_range.alarms (λ l q e. (locks l q e).1)
    (λ l m q e f. s.in_range.one_lock l m q (locks l q e).0 (locks m q f).0) s
