-- What an event leaves of what is counted for a task and for handlers.
use Rattle.std.proofs.Common.{◌≡◌, ℕ, ◌==◌, ℤ, Bool, List, length, refl, ap, ◌∙◌, Option, Some, None}
use Rattle.std.proofs.lemmas.Bool.{cond_both}
use Rattle.fmp_codes.specs.declared.numbers.Proc.{Proc}
use Rattle.fmp_codes.specs.declared.numbers.Task.{Task}
use Rattle.fmp_rules.specs.Effects.{Effect}
use Rattle.fmp_rules.specs.declared.machine.TaskRecord.{TaskRecord}
use Rattle.fmp_rules.specs.declared.machine.Wait.{Wait}
use Rattle.fmp_rules.specs.declared.machine.Cyclic.{Cyclic}
use Rattle.fmp_rules.specs.declared.machine.Alarm.{Alarm}
use Rattle.fmp_rules.specs.World.{World, no_task, item, with_item, task}
use Rattle.fmp_rules.specs.Ordering.{Ordering, place, begin_wait}
use Rattle.fmp_rules.specs.Tasks.{make_ready, migrate}
use Rattle.fmp_rules.specs.Arguments.{caller, is_zero, ticks_of}
use Rattle.fmp_rules.specs.Rows.{done_or_wait}
use Rattle.fmp_law_records.proofs.counts.Tasks.{after_change}
use Rattle.fmp_rules.specs.Tick.{tick, ticked, counted_down, released, tasks_expired}
use Rattle.fmp_law_safety.proofs.KeepsDue.{released_keep}
use Rattle.fmp_law_balance.proofs.waits.Ticks.{handlers_beside}

-- what is counted for a task
pub record Tally : Type 0 where
  pub active : Bool
  pub activations : ℕ
  pub wakeups : ℕ

abbrev pub tally : TaskRecord → Tally
tally r = record { active = r.active; activations = r.activations; wakeups = r.wakeups }

-- the cyclic handlers and alarms with their counts, and for how many processors there are due handlers
pub record Clock : Type 0 where
  pub alarms : List Alarm
  pub alarms_left : List (Option ℕ)
  pub cyclics : List Cyclic
  pub cyclics_left : List (Option ℕ)
  pub due : ℕ

abbrev pub clock : {Q : Type 0} → World Q → Clock
clock w = record { alarms = w.alarms; alarms_left = w.alarms_left; cyclics = w.cyclics; cyclics_left = w.cyclics_left; due = length w.due }

-- from w to v what is counted for t stays, and what is counted for handlers
pub record Spares {Q : Type 0} (t : Task) (w v : World Q) : Type 0 where
  pub counts : tally (task v t) ≡ tally (task w t)
  pub clock : clock v ≡ clock w

module _ {Q : Type 0} (t : Task) (w : World Q) where
  pub spares_all : Spares t w w
  spares_all = record { counts = refl; clock = refl }

  pub spares_then : (u v : World Q) → Spares t w u → Spares t u v → Spares t w v
  spares_then u v a b = record { counts = b.counts ∙ a.counts; clock = b.clock ∙ a.clock }

  -- something changes besides the tasks
  pub spares_beside : (v : World Q) → v.tasks ≡ w.tasks → clock v ≡ clock w → Spares t w v
  spares_beside v e same = record { counts = ap (λ (rs : List TaskRecord). tally (item no_task rs t.number)) e; clock = same }

  -- the record of a task changes, and what is counted for it stays
  pub spares_task : (v : World Q) (u : Task) (r : TaskRecord) → tally r ≡ tally (task w u) → v.tasks ≡ with_item w.tasks u.number r → clock v ≡ clock w → Spares t w v
  spares_task v u r same e still = record {
    counts = ap (λ (rs : List TaskRecord). tally (item no_task rs t.number)) e ∙ after_change w u r t (λ o. tally o ≡ tally (task w t)) (λ h. same ∙ h) refl;
    clock = still;
  }

  module _ (k : Ordering Q) where
    pub spares_ready : (u : Task) → Spares t w (make_ready k w u)
    spares_ready u = spares_task (make_ready k w u) u (record (task w u) { wait = None }) refl refl refl

    pub spares_begin : (u : Task) (x : Wait) (left : Option ℕ) → Spares t w (begin_wait k w u x left)
    spares_begin u x left = spares_task (begin_wait k w u x left) u (record (task w u) { wait = Some x }) refl refl refl

    pub spares_migrate : (u : Task) (to : Proc) → Spares t w (migrate k w u to)
    spares_migrate u to =
        let r : TaskRecord = record (task w u) { assigned = to } in
        cond_both ((task w u).assigned.number == to.number) w (place k w u r) (λ (v : World Q). Spares t w v) (λ _. spares_all) (λ _. spares_task (place k w u r) u r refl refl refl)

    -- a wait begins, or else this is done
    pub spares_done_or_wait : (p : Proc) (can : Bool) (effect : World Q × Effect) (x : Wait) (timeout : ℤ) → Spares t w effect.0 → Spares t w (done_or_wait k w p can effect x timeout).0
    spares_done_or_wait p can effect x timeout at_once =
        cond_both can _ _ (λ (did : World Q × Effect). Spares t w did.0) (λ _. at_once)
        (λ _. cond_both (is_zero timeout) _ _ (λ (did : World Q × Effect). Spares t w did.0) (λ _. spares_all) (λ _. spares_begin (caller w p) x (ticks_of timeout)))

-- a tick leaves what is counted for a task
module _ {Q : Type 0} (k : Ordering Q) (p : Proc) (t : Task) (w : World Q) where
  pub spares_tick : tally (task (tick k w p).0 t) ≡ tally (task w t)
  unfolding counted_down ticked
  spares_tick =
      let v : World Q = counted_down w p in
      let ts : List Task = tasks_expired v.waits_left (k.timed v.order v.waits_left) in
      ap (λ (rs : List TaskRecord). tally (item no_task rs t.number)) (handlers_beside p (released k v ts).0).0
      ∙ released_keep p (λ (x : World Q). tally (task x t) ≡ tally (task w t)) k (λ x u h. (spares_ready t x k u).counts ∙ h) v ts refl
