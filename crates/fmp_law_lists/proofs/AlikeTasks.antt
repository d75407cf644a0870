-- Calls on tasks that are made in states which agree.
use Rattle.std.proofs.Common.{◌≡◌, ℕ, pos, ℤ, ◌-◌, ◌+◌, ◌==◌, Bool, true, false, not, ◌&&◌, ◌||◌, List, [], ◌∷◌, refl, sym, ap, ◌∙◌, subst, Option, None, Some}
use Rattle.std.specs.Prelude.{is_some, is_none, nat_lt, nat_le, unwrap_or, option_map, if◌then◌else◌}
use Rattle.fmp_codes.specs.Numbers.{as_task, as_proc}
use Rattle.fmp_codes.specs.declared.numbers.Pri.{Pri}
use Rattle.fmp_codes.specs.declared.numbers.Proc.{Proc}
use Rattle.fmp_codes.specs.declared.numbers.Task.{Task}
use Rattle.fmp_codes.specs.declared.calls.TaskCall.{TaskCall}
use Rattle.fmp_codes.specs.declared.calls.TaskCall.TheVariants as task_call
use Rattle.fmp_codes.specs.declared.codes.Code.{Code}
use Rattle.fmp_codes.specs.declared.codes.Code.TheVariants as code
use Rattle.fmp_setup.specs.declared.setup.Class.{Class}
use Rattle.fmp_setup.specs.Setup.{has_member}
use Rattle.fmp_rules.specs.Effects.{Effect}
use Rattle.fmp_rules.specs.declared.machine.Eventflag.{Eventflag}
use Rattle.fmp_rules.specs.declared.machine.Pool.{Pool}
use Rattle.fmp_rules.specs.declared.machine.Processor.{Processor}
use Rattle.fmp_rules.specs.declared.machine.Rule.{Rule}
use Rattle.fmp_rules.specs.declared.machine.Semaphore.{Semaphore}
use Rattle.fmp_rules.specs.declared.machine.TaskRecord.{TaskRecord}
use Rattle.fmp_rules.specs.declared.machine.Wait.{Wait}
use Rattle.fmp_rules.specs.declared.machine.Wait.TheVariants as wait
use Rattle.fmp_rules.specs.World.{World, processor, task, item}
use Rattle.fmp_rules.specs.Objects.{no_data_queue}
use Rattle.fmp_rules.specs.Ordering.{Ordering, with_task, place, begin_wait, order_of}
use Rattle.fmp_rules.specs.Processors.{opened, unlocked, with_lock}
use Rattle.fmp_rules.specs.Tasks.{started, ended, activate, finish, change_priority, migrate}
use Rattle.fmp_rules.specs.Arguments.{caller, class_of, forever, is_caller, is_priority_or_zero, is_zero, number_within, priority_or, processor_or_initial, task_named, task_or_caller, ticks_of}
use Rattle.fmp_rules.specs.Rows.{Row, at_processor, done, on_task, release, row, unheld_if, when_locked, with_value}
use Rattle.fmp_rules.specs.TaskCalls.{act, activation, can_act, can_wup, chg_pri, dly_tsk, ext_tsk, get_pri, is_dormant, is_sleep, mact, mig_tsk, rel_wai, rsm_tsk, sus_tsk, task_row, ter_tsk, tslp_tsk, wup}
use Rattle.fmp_law_footprint.specs.Cells.{Cell, OfTask, CountsOf, WaitOf, LeftOf, OfProcessor, LatchOf, OfSemaphore, OfEventflag, OfPool, at, there, on, standing, tally}
use Rattle.fmp_law_footprint.specs.Shapes.{Frame}
use Rattle.fmp_law_footprint.specs.Named.{the}
use Rattle.fmp_law_lists.specs.Reads.{Agree, DoAlike, ReadsCells, Own}
use Rattle.fmp_law_lists.specs.ReadsCalls.{KnowsAll, KnowsObject, ReadsTask}
use Rattle.fmp_law_lists.proofs.Agreeing.{Alike, if_alike, agree_task, agree_processor, agree_freed, place_alike, ready_alike, begin_alike, end_alike, requeue_alike}
use Rattle.fmp_law_lists.proofs.AlikeCalls.{RowsAlike, rows_in_handler, rows_waiting, processor_same, caller_same, waits_alike}

module _ {Q : Type 0} (Part : Cell → Type 0) (part : Q → (c : Cell) → Part c) (S : Cell → Type 0) where
  abbrev Agrees : World Q → World Q → Type 0
  Agrees = Agree Part part S

  abbrev Does : World Q × Effect → World Q × Effect → Type 0
  Does = DoAlike Part part S

  abbrev Rows : Row Q → Row Q → Type 0
  Rows = RowsAlike Part part S

  rows_unheld : (x y : Bool) (a b : Row Q) → x ≡ y → Rows a b → Rows (unheld_if x a) (unheld_if y b)
  rows_unheld x y a b e h = record { rule = λ i. record (h.rule i) { unheld = e i }; known = h.known; proper = h.proper; errors = h.errors; effect = h.effect }

  pub rows_locked : (a b : Row Q) → Rows a b → Rows (when_locked a) (when_locked b)
  rows_locked a b h =
      record { rule = ap (λ (r : Rule). record r { when_locked = true }) h.rule; known = h.known; proper = h.proper; errors = h.errors; effect = h.effect }

  pub rows_at : (c d : Class) (to goal : Option Proc) (a b : Row Q) → c ≡ d → to ≡ goal → Rows a b → Rows (at_processor c to a) (at_processor d goal b)
  rows_at c d to goal a b e f h = record {
    rule = h.rule;
    known = λ i. h.known i && is_some (f i);
    proper = λ i. h.proper i && has_member (e i) (unwrap_or (f i) (as_proc 1));
    errors = h.errors;
    effect = h.effect;
  }

  rows_on_task : (v w : World Q) (o u : Option Task) (E : World Q → Task → List (Bool × Code)) (F : World Q → Task → World Q × Effect) → o ≡ u
      → E v (the u) ≡ E w (the u) → Does (F v (the u)) (F w (the u)) → Rows (on_task o (E v) (F v)) (on_task u (E w) (F w))
  rows_on_task v w o u E F e errors effect =
      subst (λ x. Rows (on_task x (E v) (F v)) (on_task u (E w) (F w))) (sym e) (record { rule = refl; known = refl; proper = refl; errors = errors; effect = effect })

  alike_of : (n : ℕ) (r s : TaskRecord) → r ≡ s → Alike Part part S n r s
  alike_of n r s e = record { standing = ap standing e; wait = ap (λ (x : TaskRecord). x.wait) e; counts = λ _. ap tally e }

  module _ (k : Ordering Q) (reads : ReadsCells Part part S k) (v w : World Q) (p : Proc) (own : Own S p) (g : Agrees v w) where
    task_same : (t : Task) → KnowsAll S t → task v t ≡ task w t
    task_same t h =
        let rest = g.values (OfTask (at t)) h.0.0 in
        let waits = g.values (WaitOf (at t)) h.0.1 in
        let counts = g.values (CountsOf (at t)) h.1 in
        λ i. record (rest i) { wait = waits i; activations = (counts i).0; kept = (counts i).1; wakeups = (counts i).2 }

    self_same : (id : ℤ) → task_or_caller v p id ≡ task_or_caller w p id
    self_same id = λ i. if is_zero id then (processor_same Part part S v w p own g i).running else option_map as_task (number_within (g.shape i).tasks id)

    other_same : (id : ℤ) → task_named v id ≡ task_named w id
    other_same id = λ i. option_map as_task (number_within (g.shape i).tasks id)

    is_caller_same : (t u : Option Task) → t ≡ u → is_caller v p t ≡ is_caller w p u
    is_caller_same t u e = ap (is_caller v p) e ∙ here u
      where
        here : (u : Option Task) → is_caller v p u ≡ is_caller w p u
        here None = refl
        here (Some t) = ap (λ (c : Processor). is_some c.running && (unwrap_or c.running (as_task 1)).number == t.number) (processor_same Part part S v w p own g)

    -- the fields of a task change by these words
    stays_alike : (t : Task) (F : TaskRecord → TaskRecord) → KnowsAll S t → Agrees (with_task v t (F (task v t))) (with_task w t (F (task w t)))
    stays_alike t F h = agree_task Part part S v w t _ _ (alike_of (at t) _ _ (ap F (task_same t h))) g

    stands_alike : (t : Task) (F : TaskRecord → TaskRecord) → KnowsAll S t → Agrees (place k v t (F (task v t))) (place k w t (F (task w t)))
    stands_alike t F h = place_alike Part part S k reads v w t _ _ h.0 (alike_of (at t) _ _ (ap F (task_same t h))) g

    finish_alike : (t : Task) → KnowsAll S t → Agrees (finish k v t) (finish k w t)
    unfolding finish
    finish_alike t h = end_alike Part part S k reads v w t _ _ h.0 (alike_of (at t) _ _ (ap ended (task_same t h))) g

    activate_alike : (t : Task) (to goal : Proc) (kept also : Option Proc) → to ≡ goal → kept ≡ also → KnowsAll S t
        → Agrees (activate k v t to kept) (activate k w t goal also)
    activate_alike t to goal kept also e f h =
        if_alike Agrees (task v t).active (task w t).active (ap (λ (r : TaskRecord). r.active) (task_same t h))
        (agree_task Part part S v w t _ _ (alike_of (at t) _ _ (λ i. record (task_same t h i) { activations = 1; kept = f i })) g)
        (place_alike Part part S k reads v w t _ _ h.0 (alike_of (at t) _ _ (λ i. started (task_same t h i) (e i))) g)

    goal_same : (t u : Option Task) (id : ℤ) → t ≡ u → KnowsAll S (the u)
        → (class_of v t ≡ class_of w u) × (processor_or_initial v (class_of v t) id ≡ processor_or_initial w (class_of w u) id)
    goal_same t u id e h =
        let class : class_of v t ≡ class_of w u = ap (λ o. class_of v o) e ∙ ap (λ (r : TaskRecord). r.setup.class) (task_same (the u) h) in
        (class, λ i. if is_zero id then Some (class i).initial else option_map as_proc (number_within (g.shape i).processors id))

    order_same : (x : Wait) → KnowsObject S (Some x) → order_of v x ≡ order_of w x
    order_same wait.Sleep h = refl
    order_same wait.Delay h = refl
    order_same (wait.Semaphore s) h = ap (λ (x : Semaphore). x.setup.order) (g.values (OfSemaphore (there s)) h)
    order_same (wait.Eventflag f x m) h = ap (λ (x : Eventflag). x.setup.order) (g.values (OfEventflag (there f)) h)
    order_same (wait.Send d y) h = ap (λ (f : Frame). (item no_data_queue f.data_queues d.number).order) g.shape
    order_same (wait.Receive d) h = refl
    order_same (wait.Pool m) h = ap (λ (x : Pool). x.setup.order) (g.values (OfPool (there m)) h)

    priority_alike : (t : Task) (n m : Pri) → n ≡ m → KnowsAll S t → S (LeftOf (at t)) → KnowsObject S (task w t).wait
        → Agrees (change_priority k v t n) (change_priority k w t m)
    priority_alike t n m e h left object =
        requeue_alike Part part S k reads v w t _ _ h.0 left (λ x is. order_same x (subst (KnowsObject S) is object))
        (alike_of (at t) _ _ (λ i. record (task_same t h i) { priority = e i })) g

    -- Rows.

    module _ (t u : Option Task) (e : t ≡ u) (h : KnowsAll S (the u)) where
      r : task v (the u) ≡ task w (the u)
      r = task_same (the u) h

      full : ((task v (the u)).active && (task v (the u)).activations == 1) ≡ ((task w (the u)).active && (task w (the u)).activations == 1)
      full = λ i. (r i).active && (r i).activations == 1

      acts : Rows (act k v t) (act k w u)
      unfolding act
      acts =
          rows_on_task v w t u (λ x y. ((task x y).active && (task x y).activations == 1, code.QueueOverflow) ∷ [])
          (λ x y. (activate k x y (task x y).assigned None, done)) e
          (ap (λ b. (b, code.QueueOverflow) ∷ []) full) (activate_alike (the u) _ _ None None (ap (λ (x : TaskRecord). x.assigned) r) refl h, refl)

      acts_at : (id : ℤ) → Rows (mact k v t id) (mact k w u id)
      unfolding mact
      acts_at id =
          let goals = goal_same t u id e h in
          rows_at _ _ _ _ _ _ goals.0 goals.1
          (subst (λ o. Rows (activation k v t (λ y. unwrap_or (processor_or_initial v (class_of v t) id) (as_proc 1)) (processor_or_initial v (class_of v t) id))
          (activation k w u (λ y. unwrap_or o (as_proc 1)) o)) goals.1
          (rows_on_task v w t u (λ x y. ((task x y).active && (task x y).activations == 1, code.QueueOverflow) ∷ [])
          (λ x y. (activate k x y (unwrap_or (processor_or_initial v (class_of v t) id) (as_proc 1)) (processor_or_initial v (class_of v t) id), done)) e
          (ap (λ b. (b, code.QueueOverflow) ∷ []) full) (activate_alike (the u) _ _ _ _ refl refl h, refl)))

      cancels : Rows (can_act v t) (can_act w u)
      unfolding can_act
      cancels =
          rows_on_task v w t u (λ x y. []) (λ x y. (with_task x y (record (task x y) { activations = 0; kept = None }), with_value (pos (task x y).activations))) e refl
          (stays_alike (the u) (λ x. record x { activations = 0; kept = None }) h, ap (λ (x : TaskRecord). with_value (pos x.activations)) r)

      forgets : Rows (can_wup v t) (can_wup w u)
      unfolding can_wup
      forgets =
          rows_on_task v w t u (λ x y. (is_dormant x y, code.ObjectState) ∷ [])
          (λ x y. (with_task x y (record (task x y) { wakeups = 0 }), with_value (pos (task x y).wakeups))) e
          (ap (λ (x : TaskRecord). (not x.active, code.ObjectState) ∷ []) r)
          (stays_alike (the u) (λ x. record x { wakeups = 0 }) h, ap (λ (x : TaskRecord). with_value (pos x.wakeups)) r)

      gets : Rows (get_pri v t) (get_pri w u)
      gets =
          rows_on_task v w t u (λ x y. (is_dormant x y, code.ObjectState) ∷ []) (λ x y. (x, with_value (pos (task x y).priority.number))) e
          (ap (λ (x : TaskRecord). (not x.active, code.ObjectState) ∷ []) r) (g, ap (λ (x : TaskRecord). with_value (pos x.priority.number)) r)

      ends : Rows (ter_tsk k v p t) (ter_tsk k w p u)
      unfolding ter_tsk
      ends =
          let here = is_caller_same t u e in
          subst (λ b. Rows (ter_tsk k v p t)
          (on_task u (λ y. (b, code.IllegalUse) ∷ (is_dormant w y || not ((task w y).assigned.number == p.number), code.ObjectState) ∷ [])
          (λ y. (finish k w y, done)))) here
          (rows_on_task v w t u (λ x y. (is_caller v p t, code.IllegalUse) ∷ (is_dormant x y || not ((task x y).assigned.number == p.number), code.ObjectState) ∷ [])
          (λ x y. (finish k x y, done)) e
          (ap (λ (x : TaskRecord). (is_caller v p t, code.IllegalUse) ∷ (not x.active || not (x.assigned.number == p.number), code.ObjectState) ∷ []) r)
          (finish_alike (the u) h, refl))

      migrates : (id : ℤ) → Rows (mig_tsk k v p t id) (mig_tsk k w p u id)
      unfolding mig_tsk
      migrates id =
          let goals = goal_same t u id e h in
          rows_unheld _ _ _ _ (is_caller_same t u e) (rows_at _ _ _ _ _ _ goals.0 goals.1
          (subst (λ o. Rows
          (on_task t (λ y. (not ((task v y).assigned.number == p.number), code.ObjectState) ∷ [])
          (λ y. (migrate k v y (unwrap_or (processor_or_initial v (class_of v t) id) (as_proc 1)), done)))
          (on_task u (λ y. (not ((task w y).assigned.number == p.number), code.ObjectState) ∷ []) (λ y. (migrate k w y (unwrap_or o (as_proc 1)), done)))) goals.1
          (rows_on_task v w t u (λ x y. (not ((task x y).assigned.number == p.number), code.ObjectState) ∷ [])
          (λ x y. (migrate k x y (unwrap_or (processor_or_initial v (class_of v t) id) (as_proc 1)), done)) e
          (ap (λ (x : TaskRecord). (not (x.assigned.number == p.number), code.ObjectState) ∷ []) r) (
            if_alike Agrees _ _ (ap (λ (x : TaskRecord). x.assigned.number == (unwrap_or (processor_or_initial v (class_of v t) id) (as_proc 1)).number) r) g
                (stands_alike (the u) (λ x. record x { assigned = unwrap_or (processor_or_initial v (class_of v t) id) (as_proc 1) }) h),
            refl,
          ))))

      moves : (n : ℤ) → S (LeftOf (at (the u))) → KnowsObject S (task w (the u)).wait → Rows (chg_pri k v t n) (chg_pri k w u n)
      unfolding chg_pri
      moves n left object =
          let a = rows_on_task v w t u (λ x y. (is_dormant x y, code.ObjectState) ∷ []) (λ x y. (change_priority k x y (priority_or (task x y).setup.priority n), done)) e
          (ap (λ (x : TaskRecord). (not x.active, code.ObjectState) ∷ []) r)
          (priority_alike (the u) _ _ (ap (λ (x : TaskRecord). priority_or x.setup.priority n) r) h left object, refl) in
          record { rule = a.rule; known = a.known; proper = ap (λ (f : Frame). is_priority_or_zero f.limits n) g.shape; errors = a.errors; effect = a.effect }

      wakes : Rows (wup k v t) (wup k w u)
      unfolding wup
      wakes =
          rows_on_task v w t u
          (λ x y. (is_dormant x y, code.ObjectState) ∷ (not (is_sleep (task x y).wait) && nat_le x.limits.wakeups (task x y).wakeups, code.QueueOverflow) ∷ [])
          (λ x y. if is_sleep (task x y).wait then release k x y code.Accepted None else (with_task x y (record (task x y) { wakeups = (task x y).wakeups + 1 }), done)) e
          (λ i. (not (r i).active, code.ObjectState) ∷ (not (is_sleep (r i).wait) && nat_le (g.shape i).limits.wakeups (r i).wakeups, code.QueueOverflow) ∷ [])
          (if_alike Does _ _ (ap (λ (x : TaskRecord). is_sleep x.wait) r) (ready_alike Part part S k reads v w (the u) h.0 g, refl)
          (stays_alike (the u) (λ x. record x { wakeups = x.wakeups + 1 }) h, refl))

      frees : Rows (rel_wai k v t) (rel_wai k w u)
      unfolding rel_wai
      frees =
          rows_on_task v w t u (λ x y. (is_none (task x y).wait, code.ObjectState) ∷ []) (λ x y. release k x y code.WaitReleased None) e
          (ap (λ (x : TaskRecord). (is_none x.wait, code.ObjectState) ∷ []) r) (ready_alike Part part S k reads v w (the u) h.0 g, refl)

      suspends : Rows (sus_tsk k v p t) (sus_tsk k w p u)
      unfolding sus_tsk
      suspends =
          rows_unheld _ _ _ _ (is_caller_same t u e)
          (rows_on_task v w t u (λ x y. (is_dormant x y, code.ObjectState) ∷ ((task x y).suspended, code.QueueOverflow) ∷ [])
          (λ x y. (place k x y (record (task x y) { suspended = true }), done)) e
          (ap (λ (x : TaskRecord). (not x.active, code.ObjectState) ∷ (x.suspended, code.QueueOverflow) ∷ []) r)
          (stands_alike (the u) (λ x. record x { suspended = true }) h, refl))

      resumes : Rows (rsm_tsk k v t) (rsm_tsk k w u)
      unfolding rsm_tsk
      resumes =
          rows_on_task v w t u (λ x y. (not (task x y).suspended, code.ObjectState) ∷ []) (λ x y. (place k x y (record (task x y) { suspended = false }), done)) e
          (ap (λ (x : TaskRecord). (not x.suspended, code.ObjectState) ∷ []) r) (stands_alike (the u) (λ x. record x { suspended = false }) h, refl)

    -- a row without arguments
    rows_plain : (d e : World Q × Effect) → Does d e → Rows (row d) (row e)
    rows_plain d e h = record { rule = refl; known = refl; proper = refl; errors = refl; effect = h }

    -- what holds of the caller of both holds of the caller of each
    at_caller : (P : Task → Task → Type 0) → P (caller w p) (caller w p) → P (caller v p) (caller w p)
    at_caller P h = subst (λ t. P t (caller w p)) (sym (caller_same Part part S v w p own g)) h

    sleeps : (timeout : ℤ) → KnowsAll S (caller w p) → Rows (tslp_tsk k v p timeout) (tslp_tsk k w p timeout)
    unfolding tslp_tsk
    sleeps timeout h =
        let t = caller w p in
        let same : task v t ≡ task w t = task_same t h in
        rows_waiting Part part S timeout _ _ (rows_plain _ _
        (waits_alike Part part S v w p own g k reads _ _
        (with_task v (caller v p) (record (task v (caller v p)) { wakeups = (task v (caller v p)).wakeups - 1 }), done)
        (with_task w t (record (task w t) { wakeups = (task w t).wakeups - 1 }), done)
        wait.Sleep timeout
        (at_caller (λ a b. nat_lt 0 (task v a).wakeups ≡ nat_lt 0 (task w b).wakeups) (ap (λ (x : TaskRecord). nat_lt 0 x.wakeups) same)) (
          at_caller (λ a b. Agrees (with_task v a (record (task v a) { wakeups = (task v a).wakeups - 1 }))
              (with_task w b (record (task w b) { wakeups = (task w b).wakeups - 1 })))
              (stays_alike t (λ x. record x { wakeups = x.wakeups - 1 }) h),
          refl,
        ) h.0 refl))

    delays : (n : ℤ) → KnowsAll S (caller w p) → Rows (dly_tsk k v p n) (dly_tsk k w p n)
    unfolding dly_tsk
    delays n h =
        let a = rows_plain _ _ (
          at_caller (λ a b. Agrees (begin_wait k v a wait.Delay (ticks_of n)) (begin_wait k w b wait.Delay (ticks_of n)))
              (begin_alike Part part S k reads v w (caller w p) wait.Delay (ticks_of n) h.0 refl g),
          refl,
        ) in
        record { rule = refl; known = refl; proper = refl; errors = refl; effect = a.effect }

  -- p is unlocked and may dispatch
  opened_alike : (v w : World Q) (p : Proc) → Own S p → Agrees v w → Agrees (opened v p) (opened w p)
  unfolding opened
  opened_alike v w p own g =
      let locked = agree_processor Part part S v w p (record (processor v p) { locked = false }) (record (processor w p) { locked = false })
      (λ h. ap (λ (c : Processor). record c { locked = false }) (g.values (OfProcessor (on p)) h)) (λ h. g.values (LatchOf (on p)) h) g in
      let freed = agree_freed Part part S (with_lock v p false) (with_lock w p false) p locked in
      agree_processor Part part S (unlocked v p) (unlocked w p) p (record (processor (unlocked v p) p) { disabled = false })
      (record (processor (unlocked w p) p) { disabled = false })
      (λ h. ap (λ (c : Processor). record c { disabled = false }) (freed.values (OfProcessor (on p)) h)) (λ h. freed.values (LatchOf (on p)) h) freed

  module _ (k : Ordering Q) (reads : ReadsCells Part part S k) (v w : World Q) (p : Proc) (own : Own S p) (g : Agrees v w) where
    leaves : KnowsAll S (caller w p) → Rows (ext_tsk k v p) (ext_tsk k w p)
    unfolding ext_tsk opened
    leaves h =
        rows_locked _ _ (rows_plain k reads v w p own g _ _ (
          at_caller k reads v w p own g (λ a b. Agrees (finish k (opened v p) a) (finish k (opened w p) b))
              (finish_alike k reads (opened v p) (opened w p) p own (opened_alike v w p own g) (caller w p) h),
          refl,
        ))

    pub task_alike : (c : TaskCall) → ReadsTask k S w p c → Rows (task_row k v p c) (task_row k w p c)
    task_alike (task_call.ActTsk id) h = acts k reads v w p own g _ _ (self_same k reads v w p own g id) h
    task_alike (task_call.IactTsk id) h = rows_in_handler Part part S _ _ (acts k reads v w p own g _ _ (other_same k reads v w p own g id) h)
    task_alike (task_call.MactTsk id to) h = acts_at k reads v w p own g _ _ (self_same k reads v w p own g id) h to
    task_alike (task_call.ImactTsk id to) h = rows_in_handler Part part S _ _ (acts_at k reads v w p own g _ _ (other_same k reads v w p own g id) h to)
    task_alike (task_call.CanAct id) h = cancels k reads v w p own g _ _ (self_same k reads v w p own g id) h
    task_alike (task_call.MigTsk id to) h = migrates k reads v w p own g _ _ (self_same k reads v w p own g id) h to
    task_alike task_call.ExtTsk h = leaves h
    task_alike (task_call.TerTsk id) h = ends k reads v w p own g _ _ (other_same k reads v w p own g id) h
    task_alike (task_call.ChgPri id n) h = moves k reads v w p own g _ _ (self_same k reads v w p own g id) h.0 n h.1 h.2
    task_alike (task_call.GetPri id) h = gets k reads v w p own g _ _ (self_same k reads v w p own g id) h
    task_alike task_call.SlpTsk h = sleeps k reads v w p own g forever h
    task_alike (task_call.TslpTsk timeout) h = sleeps k reads v w p own g timeout h
    task_alike (task_call.WupTsk id) h = wakes k reads v w p own g _ _ (self_same k reads v w p own g id) h
    task_alike (task_call.IwupTsk id) h = rows_in_handler Part part S _ _ (wakes k reads v w p own g _ _ (other_same k reads v w p own g id) h)
    task_alike (task_call.CanWup id) h = forgets k reads v w p own g _ _ (self_same k reads v w p own g id) h
    task_alike (task_call.RelWai id) h = frees k reads v w p own g _ _ (other_same k reads v w p own g id) h
    task_alike (task_call.IrelWai id) h = rows_in_handler Part part S _ _ (frees k reads v w p own g _ _ (other_same k reads v w p own g id) h)
    task_alike (task_call.SusTsk id) h = suspends k reads v w p own g _ _ (self_same k reads v w p own g id) h
    task_alike (task_call.RsmTsk id) h = resumes k reads v w p own g _ _ (other_same k reads v w p own g id) h
    task_alike (task_call.DlyTsk n) h = delays k reads v w p own g n h
