-- What an event leaves alone.
use Rattle.std.proofs.Common.{◌≡◌, ℕ, ℤ, Bool, true, false, List, [], refl, sym, ap, ◌∙◌, subst, Option, Some, None}
use Rattle.std.specs.Prelude.{All, slice_index_or}
use Rattle.std.proofs.lemmas.Bool.{cond_both, false≢true}
use Rattle.std.proofs.lemmas.Option.{none-some}
use Rattle.fmp_codes.specs.declared.numbers.Proc.{Proc}
use Rattle.fmp_codes.specs.declared.numbers.Task.{Task}
use Rattle.fmp_codes.specs.declared.numbers.Object.{Object}
use Rattle.fmp_codes.specs.declared.records.Runner.{Runner}
use Rattle.fmp_codes.specs.declared.records.Runner.TheVariants as runner
use Rattle.fmp_rules.specs.Effects.{Effect}
use Rattle.fmp_rules.specs.declared.machine.TaskRecord.{TaskRecord}
use Rattle.fmp_rules.specs.declared.machine.Processor.{Processor}
use Rattle.fmp_rules.specs.declared.machine.Eventflag.{Eventflag}
use Rattle.fmp_rules.specs.declared.machine.Cyclic.{Cyclic}
use Rattle.fmp_rules.specs.declared.machine.Alarm.{Alarm}
use Rattle.fmp_rules.specs.declared.machine.Wait.{Wait}
use Rattle.fmp_rules.specs.declared.machine.Wait.TheVariants as wait
use Rattle.fmp_rules.specs.World.{World, no_task, item, with_item, task}
use Rattle.fmp_rules.specs.Ordering.{Ordering, with_task, place, begin_wait}
use Rattle.fmp_rules.specs.Tasks.{ended, finish, make_ready, start, activate}
use Rattle.fmp_rules.specs.Arguments.{caller, is_zero}
use Rattle.fmp_rules.specs.Rows.{done_or_wait, wait_for}
use Rattle.fmp_law_safety.proofs.Items.{item_after, all_after}
use Rattle.fmp_law_safety.proofs.KeepsTasks.{no_wait_ended}

-- what is due is an alarm or a cyclic
abbrev pub IsHandler : Runner → Type 0
IsHandler (runner.Task t) = ⊥
IsHandler other = Unit {0}

abbrev pub AreHandlers : List (List Runner) → Type 0
AreHandlers due = All (All IsHandler) due

-- from w to v no object changes, and nobody begins to wait to send
pub record Leaves {Q : Type 0} (w v : World Q) : Type 0 where
  pub semaphores : v.semaphores ≡ w.semaphores
  pub pools : v.pools ≡ w.pools
  pub data_queues : v.data_queues ≡ w.data_queues
  pub contents : v.contents ≡ w.contents
  pub due : AreHandlers w.due → AreHandlers v.due
  pub senders : (t : Task) (d : Object) (x : ℤ) → (task v t).wait ≡ Some (wait.Send d x) → (task w t).wait ≡ Some (wait.Send d x)

abbrev pub is_sending : Option Wait → Bool
is_sending (Some (wait.Send d x)) = true
is_sending other = false

-- a record does not begin to wait to send
abbrev pub KeepsSending : TaskRecord → TaskRecord → Type 0
KeepsSending old new = (d : Object) (x : ℤ) → new.wait ≡ Some (wait.Send d x) → old.wait ≡ Some (wait.Send d x)

pub not_sending : (old new : TaskRecord) → is_sending new.wait ≡ false → KeepsSending old new
not_sending old new other d x e = absurd (false≢true (sym other ∙ ap is_sending e))

module _ {Q : Type 0} (w : World Q) where
  pub leaves_all : Leaves w w
  leaves_all = record { semaphores = refl; pools = refl; data_queues = refl; contents = refl; due = λ h. h; senders = λ t d x e. e }

  pub leaves_then : (u v : World Q) → Leaves w u → Leaves u v → Leaves w v
  leaves_then u v a b = record {
    semaphores = b.semaphores ∙ a.semaphores;
    pools = b.pools ∙ a.pools;
    data_queues = b.data_queues ∙ a.data_queues;
    contents = b.contents ∙ a.contents;
    due = λ h. b.due (a.due h);
    senders = λ t d x e. a.senders t d x (b.senders t d x e);
  }

  -- processors, spin locks, eventflags, cyclic handlers and alarms change
  pub leaves_others : (cs : List Processor) (hs : List (Option Proc)) (fs : List Eventflag) (ys : List Cyclic) (ns : List (Option ℕ)) (zs : List Alarm) (ms : List (Option ℕ)) →
      Leaves w (record w { processors = cs; holders = hs; eventflags = fs; cyclics = ys; cyclics_left = ns; alarms = zs; alarms_left = ms })
  leaves_others cs hs fs ys ns zs ms = record { semaphores = refl; pools = refl; data_queues = refl; contents = refl; due = λ h. h; senders = λ t d x e. e }

  pub leaves_processors : (cs : List Processor) (hs : List (Option Proc)) → Leaves w (record w { processors = cs; holders = hs })
  leaves_processors cs hs = leaves_others cs hs w.eventflags w.cyclics w.cyclics_left w.alarms w.alarms_left

  -- handlers become due on a processor, or are no longer
  pub leaves_due : (n : ℕ) (rs : List Runner) → (All IsHandler (item [] w.due n) → All IsHandler rs) → Leaves w (record w { due = with_item w.due n rs })
  leaves_due n rs keeps = record {
    semaphores = refl;
    pools = refl;
    data_queues = refl;
    contents = refl;
    due = λ h. all_after [] w.due n rs (All IsHandler) keeps h;
    senders = λ t d x e. e;
  }

  -- the order changes, and the ticks left
  pub leaves_order : (left : List (Option ℕ)) (q : Q) → Leaves w (record w { waits_left = left; order = q })
  leaves_order left q = record { semaphores = refl; pools = refl; data_queues = refl; contents = refl; due = λ h. h; senders = λ t d x e. e }

  -- one task changes, and the order
  pub leaves_task : (t : Task) (r : TaskRecord) (left : List (Option ℕ)) (q : Q) → KeepsSending (task w t) r →
      Leaves w (record w { tasks = with_item w.tasks t.number r; waits_left = left; order = q })
  leaves_task t r left q keeps = record {
    semaphores = refl;
    pools = refl;
    data_queues = refl;
    contents = refl;
    due = λ h. h;
    senders = λ u d x.
        item_after no_task w.tasks t.number r (λ o. o.wait ≡ Some (wait.Send d x) → (task w u).wait ≡ Some (wait.Send d x)) u.number
        (λ i h. subst (λ j. (slice_index_or w.tasks j no_task).wait ≡ Some (wait.Send d x)) (sym i) (keeps d x h)) (λ h. h);
  }

-- The words by which calls change tasks.

module _ {Q : Type 0} (k : Ordering Q) (w : World Q) where
  pub leaves_with_task : (t : Task) (r : TaskRecord) → KeepsSending (task w t) r → Leaves w (with_task w t r)
  leaves_with_task t r keeps = leaves_task w t r w.waits_left w.order keeps

  -- a task leaves its ready queue and perhaps comes back; its wait stays
  pub leaves_place : (t : Task) (r : TaskRecord) → r.wait ≡ (task w t).wait → Leaves w (place k w t r)
  leaves_place t r e = leaves_task w t r w.waits_left _ (λ d x h. sym e ∙ h)

  pub leaves_ready : (t : Task) → Leaves w (make_ready k w t)
  leaves_ready t = leaves_task w t (record (task w t) { wait = None }) _ _ (λ d x e. absurd (none-some (wait.Send d x) e))

  pub leaves_finish : (t : Task) → Leaves w (finish k w t)
  unfolding finish
  leaves_finish t = leaves_task w t (ended (task w t)) _ _ (λ d x e. absurd (none-some (wait.Send d x) (sym (no_wait_ended (task w t)) ∙ e)))

  pub leaves_begin : (t : Task) (x : Wait) (left : Option ℕ) → is_sending (Some x) ≡ false → Leaves w (begin_wait k w t x left)
  leaves_begin t x left other = leaves_task w t (record (task w t) { wait = Some x }) _ _ (not_sending (task w t) (record (task w t) { wait = Some x }) other)

  pub leaves_activate : (t : Task) (p : Proc) (kept : Option Proc) → Leaves w (activate k w t p kept)
  leaves_activate t p kept =
      cond_both (task w t).active (with_task w t (record (task w t) { activations = 1; kept = kept })) (start k w t p) (λ (v : World Q). Leaves w v)
      (λ _. leaves_task w t _ w.waits_left w.order (λ d x e. e))
      (λ _. leaves_task w t _ w.waits_left _ (λ d x e. absurd (none-some (wait.Send d x) e)))

  -- a wait for something else than to send begins, or the timeout was 0
  pub leaves_wait : (t : Task) (x : Wait) (timeout : ℤ) → is_sending (Some x) ≡ false → Leaves w (wait_for k w t x timeout).0
  leaves_wait t x timeout other =
      cond_both (is_zero timeout) _ _ (λ (did : World Q × Effect). Leaves w did.0) (λ _. leaves_all w) (λ _. leaves_begin t x _ other)

  pub leaves_done_or_wait : (p : Proc) (can : Bool) (effect : World Q × Effect) (x : Wait) (timeout : ℤ) → Leaves w effect.0 → is_sending (Some x) ≡ false →
      Leaves w (done_or_wait k w p can effect x timeout).0
  leaves_done_or_wait p can effect x timeout at_once other =
      cond_both can _ _ (λ (did : World Q × Effect). Leaves w did.0) (λ _. at_once) (λ _. leaves_wait (caller w p) x timeout other)
