-- What each step does to the lives and the queued activations of a task.
use Rattle.std.proofs.Common.{◌≡◌, ℕ, ◌+◌, ◌-◌, ◌<◌, ◌≤◌, ◌==◌, ℤ, Bool, true, false, ◌&&◌, length, refl, sym, ap, subst, arith, lit≤, Option, None}
use Rattle.std.specs.Prelude.{if◌then◌else◌, is_some, nat_lt, unwrap_or}
use Rattle.std.proofs.lemmas.Bool.{cond_both, and_parts, eqb-false, false≢true, ltb-true, ltb-false, not-false, or_parts}
use Rattle.fmp_codes.specs.Numbers.{as_task}
use Rattle.fmp_codes.specs.declared.numbers.Proc.{Proc}
use Rattle.fmp_codes.specs.declared.numbers.Task.{Task}
use Rattle.fmp_codes.specs.declared.calls.Call.{Call}
use Rattle.fmp_codes.specs.declared.calls.Call.TheVariants as call
use Rattle.fmp_codes.specs.declared.calls.TaskCall.{TaskCall}
use Rattle.fmp_codes.specs.declared.calls.TaskCall.TheVariants as tasks
use Rattle.fmp_codes.specs.declared.codes.Code.{Code}
use Rattle.fmp_codes.specs.declared.codes.Code.TheVariants as code
use Rattle.fmp_codes.specs.declared.records.Answer.{Answer}
use Rattle.fmp_codes.specs.declared.records.Answer.TheVariants as answer
use Rattle.fmp_codes.specs.declared.records.Event.{Event}
use Rattle.fmp_codes.specs.declared.records.Event.TheVariants as event
use Rattle.fmp_codes.specs.declared.records.Record.{Record}
use Rattle.fmp_codes.specs.declared.records.Runner.{Runner}
use Rattle.fmp_codes.specs.Records.{is_call}
use Rattle.fmp_rules.specs.Effects.{Effect}
use Rattle.fmp_rules.specs.declared.machine.TaskRecord.{TaskRecord}
use Rattle.fmp_rules.specs.declared.machine.Wait.TheVariants as wait
use Rattle.fmp_rules.specs.World.{World, no_task, with_item, task, runner_of}
use Rattle.fmp_rules.specs.Ordering.{Ordering, with_task, begin_wait}
use Rattle.fmp_rules.specs.Tasks as words
use Rattle.fmp_rules.specs.Rows.{Row, called, refused, plain, in_handler}
use Rattle.fmp_rules.specs.Arguments.{caller, task_named, task_or_caller, is_zero, forever, ticks_of}
use Rattle.fmp_rules.specs.Processors.{opened}
use Rattle.fmp_rules.specs.TaskCalls.{is_dormant, is_sleep, act, mact, can_act, mig_tsk, ext_tsk, ter_tsk, chg_pri, get_pri, tslp_tsk, wup, can_wup, rel_wai, sus_tsk, rsm_tsk, dly_tsk, task_row}
use Rattle.fmp_rules.specs.Tick.{tick}
use Rattle.fmp_rules.specs.Step.{row_of, step}
use Rattle.fmp_law_safety.specs.Safe.{Safe}
use Rattle.fmp_law_safety.proofs.Items.{item_holds}
use Rattle.fmp_law_safety.proofs.Calls.{FromTask, from_task}
use Rattle.fmp_law_balance.specs.Accepted.{is_accepted, accepted_value, one_if}
use Rattle.fmp_law_balance.proofs.Called.{refuses, by_called, either_way, not_accepted}
use Rattle.fmp_law_balance.proofs.Steps.{report, by_step}
use Rattle.fmp_law_records.specs.Counts.Lives.{activates, activated, ends, ended, takes_back, amount, taken_back}
use Rattle.fmp_law_balance.proofs.waits.Follows.{running_may}
use Rattle.fmp_law_balance.proofs.waits.Named.{by_task, task_known}
use Rattle.fmp_law_records.proofs.Rows.{task_rows}
use Rattle.fmp_law_records.proofs.counts.Tasks.{is_caller_of, named_or_caller_is, after_change, changed_here, changed_there}
use Rattle.fmp_law_records.proofs.counts.Sparing.{Tally, tally, Spares, spares_all, spares_ready, spares_begin, spares_tick}
use Rattle.fmp_law_records.proofs.counts.SparesCalls.{spares_mig, spares_chg, spares_rel, spares_sus, spares_rsm, spares_dly, tally_call}

-- the life that goes on and those that are queued
abbrev pub life : TaskRecord → ℕ
life r = one_if r.active + r.activations

-- a life ends, and a queued activation begins the next one
life_ended : (r : TaskRecord) → r.active ≡ true → life (words.ended r) + 1 ≡ life r
life_ended r active =
    let one : one_if r.active ≡ 1 = ap one_if active in
    cond_both (nat_lt 0 r.activations) _ _ (λ (o : TaskRecord). life o + 1 ≡ life r)
    (λ some. let positive : 0 < r.activations = ltb-true 0 r.activations some in omega (arith, one, positive))
    (λ none. let zero : r.activations ≤ 0 = ltb-false 0 r.activations none in omega (arith, one, zero))

none_taken : (a : Answer) → is_accepted a ≡ false → amount (accepted_value a) ≡ 0
none_taken (answer.Done code.Accepted v) e = absurd (false≢true (sym e))
none_taken a e = refl

-- a call that is refused ends nothing, nor does what is no call
pub refused_ends : (t : Task) (r : Option Runner) (x : Code) (e : Event) → is_accepted (refused x).answer ≡ false → ends t r (refused x).answer e ≡ false
refused_ends t r x (event.Call p (call.Task (tasks.TerTsk id))) h = rw h refl
refused_ends t r x e h = refl

pub idle_ends : (t : Task) (r : Option Runner) (e : Event) → ends t r answer.Idle e ≡ false
idle_ends t r (event.Call p (call.Task (tasks.TerTsk id))) = refl
idle_ends t r e = refl

pub no_call_ends : (t : Task) (r : Option Runner) (a : Answer) (e : Event) → is_call e ≡ false → ends t r a e ≡ false
no_call_ends t r a (event.Call p c) no_call = absurd (false≢true (sym no_call))
no_call_ends t r a e no_call = refl

module _ {Q : Type 0} (w : World Q) (t : Task) where
  -- from w to v, where this is told
  abbrev pub Lives : World Q → Record → Type 0
  Lives v r = life (task w t) + activated t r ≡ life (task v t) + ended t r + taken_back t r

  nothing_begun : (r : Record) → is_accepted r.answer ≡ false → ends t r.runner r.answer r.event ≡ false → Lives w r
  nothing_begun r e no_end =
      let none : activated t r ≡ 0 = cond_both (activates t r.runner r.event) _ _ (λ n. n ≡ 0) (λ _. ap one_if e) (λ _. refl) in
      let no_life : ended t r ≡ 0 = ap one_if no_end in
      let neither : taken_back t r ≡ 0 = cond_both (takes_back t r.runner r.event) _ _ (λ n. n ≡ 0) (λ _. none_taken r.answer e) (λ _. refl) in
      rw (none, no_life, neither) (omega arith)

  -- what is counted stays, and nothing is told of it
  unchanged : (v : World Q) → tally (task v t) ≡ tally (task w t) → life (task w t) + 0 ≡ life (task v t) + 0 + 0
  unchanged v h = omega (arith, ap (λ (x : Tally). one_if x.active + x.activations) h)

  spared : (v : World Q) → Spares t w v → life (task w t) + 0 ≡ life (task v t) + 0 + 0
  spared v h = unchanged v h.counts

  -- the wakeups of a task change
  wakeups_change : (v : World Q) (u : Task) (n : ℕ) → v.tasks ≡ with_item w.tasks u.number (record (task w u) { wakeups = n }) → life (task w t) + 0 ≡ life (task v t) + 0 + 0
  wakeups_change v u n e =
      let r : TaskRecord = record (task w u) { wakeups = n } in
      let same : life (task (record w { tasks = with_item w.tasks u.number r }) t) ≡ life (task w t) = after_change w u r t (λ o. life o ≡ life (task w t)) (λ h. h) refl in
      rw e (omega (arith, same))

  module _ (here : t.number ≤ length w.tasks) (u : Task) where
    reached : u.number ≡ t.number → u.number ≤ length w.tasks
    reached e = rw e here

    -- u has another record
    module _ (v : World Q) (r : TaskRecord) (e : v.tasks ≡ with_item w.tasks u.number r) where
      -- what this changes is one more or less at u, and nothing at all others
      changed_by : (more less back : ℕ) → life (task w u) + more ≡ life r + less + back →
          life (task w t) + (if u.number == t.number then more else 0) ≡ life (task v t) + (if u.number == t.number then less else 0) + (if u.number == t.number then back else 0)
      changed_by more less back law =
          by_task (λ x b. life (task w x) + (if b then more else 0) ≡ life (task v x) + (if b then less else 0) + (if b then back else 0)) u t
          (λ same. rw (e, changed_here w u r (reached same)) law)
          (λ d. rw (e, changed_there w u r t d) (omega arith))

module _ {Q : Type 0} (k : Ordering Q) (w : World Q) (p : Proc) (t : Task) (s : Safe k w) (few : length w.tasks ≤ 64) (here : t.number ≤ length w.tasks) where
  abbrev CallLives : Call → World Q × Effect → Type 0
  CallLives c did = Lives w t did.0 (report (event.Call p c) (runner_of w p) did.1)

  refused_lives : (c : Call) (x : Code) → refuses x ≡ true → CallLives c (w, refused x)
  refused_lives c x e =
      nothing_begun w t (report (event.Call p c) (runner_of w p) (refused x)) (not_accepted x e) (refused_ends t (runner_of w p) x (event.Call p c) (not_accepted x e))

  abbrev the : Option Task → Task
  the o = unwrap_or o (as_task 1)

  most_queued : (u : Task) → (task w u).activations ≤ 1
  most_queued u = item_holds (λ (r : TaskRecord). r.activations ≤ 1) no_task w.tasks u.number (lit≤ tt) (λ i d b. (s.in_range.tasks i d b).activations)

  -- An activation.

  abbrev Activation : Bool → World Q → Type 0
  Activation b v = life (task w t) + (if b then 1 else 0) ≡ life (task v t) + 0 + 0

  as_activation : (b : Bool) (v : World Q) → life (task w t) + (if b then 1 else 0) ≡ life (task v t) + (if b then 0 else 0) + (if b then 0 else 0) → Activation b v
  as_activation true v e = e
  as_activation false v e = e

  activation_law : (u : Task) (to : Proc) (kept : Option Proc) → ((task w u).active && (task w u).activations == 1) ≡ false → Activation (u.number == t.number) (words.activate k w u to kept)
  activation_law u to kept free =
      cond_both (task w u).active _ _ (Activation (u.number == t.number))
      (λ active.
      let r : TaskRecord = record (task w u) { activations = 1; kept = kept } in
      let other : (task w u).activations ≡ 1 → ⊥ = eqb-false (task w u).activations 1 (rw active at free) in
      let none : (task w u).activations ≡ 0 = omega (arith, most_queued u, other) in
      as_activation (u.number == t.number) (with_task w u r) (changed_by w t here u (with_task w u r) r refl 1 0 0 (omega (arith, none))))
      (λ dormant.
      let r : TaskRecord = words.started (task w u) to in
      let none : one_if (task w u).active ≡ 0 = ap one_if dormant in
      as_activation (u.number == t.number) (words.start k w u to) (changed_by w t here u (words.start k w u to) r refl 1 0 0 (omega (arith, none))))

  -- where the argument names u, as the record tells
  activates_named : (b : Bool) (u : Task) (to : Proc) (kept : Option Proc) → b ≡ (u.number == t.number) → ((task w u).active && (task w u).activations == 1) ≡ false →
      Activation b (words.activate k w u to kept)
  activates_named b u to kept e free = subst (λ x. Activation x (words.activate k w u to kept)) (sym e) (activation_law u to kept free)

  -- Queued activations that are taken back.

  abbrev Back : Bool → Task → World Q → Type 0
  Back b u v = life (task w t) + 0 ≡ life (task v t) + 0 + (if b then (task w u).activations else 0)

  as_back : (b : Bool) (u : Task) (v : World Q) → life (task w t) + (if b then 0 else 0) ≡ life (task v t) + (if b then 0 else 0) + (if b then (task w u).activations else 0) → Back b u v
  as_back true u v e = e
  as_back false u v e = e

  -- The end of a life.

  abbrev Finish : Bool → World Q → Type 0
  Finish b v = life (task w t) + 0 ≡ life (task v t) + one_if b + 0

  as_finish : (b : Bool) (v : World Q) → life (task w t) + (if b then 0 else 0) ≡ life (task v t) + (if b then 1 else 0) + (if b then 0 else 0) → Finish b v
  as_finish true v e = e
  as_finish false v e = e

  finishes : (b : Bool) (u : Task) (v : World Q) → b ≡ (u.number == t.number) → (task w u).active ≡ true → v.tasks ≡ with_item w.tasks u.number (words.ended (task w u)) → Finish b v
  finishes b u v named active e =
      let less : life (words.ended (task w u)) + 1 ≡ life (task w u) = life_ended (task w u) active in
      let law : life (task w u) + 0 ≡ life (words.ended (task w u)) + 1 + 0 = omega (arith, less) in
      subst (λ x. Finish x v) (sym named) (as_finish (u.number == t.number) v (changed_by w t here u v (words.ended (task w u)) e 0 1 0 law))

  -- Nothing of a life changes, and nothing is told of it.

  abbrev Kept : World Q × Effect → Type 0
  Kept did = life (task w t) + 0 ≡ life (task did.0 t) + 0 + 0

  lives_kept : (row : Row Q) → Kept row.effect → Kept (called w p row)
  lives_kept row accepted = either_way w p Kept row (λ c. omega arith) accepted

  lives_sleep : (timeout : ℤ) → Kept (tslp_tsk k w p timeout).effect
  unfolding tslp_tsk
  lives_sleep timeout =
      let u : Task = caller w p in
      let n : ℕ = (task w u).wakeups - 1 in
      cond_both (nat_lt 0 (task w u).wakeups) _ _ Kept (λ _. wakeups_change w t (with_task w u (record (task w u) { wakeups = n })) u n refl)
      (λ _. cond_both (is_zero timeout) _ _ Kept (λ _. omega arith) (λ _. spared w t (begin_wait k w u wait.Sleep (ticks_of timeout)) (spares_begin t w k u wait.Sleep (ticks_of timeout))))

  lives_wup : (o : Option Task) → Kept (wup k w o).effect
  unfolding wup
  lives_wup o =
      let u : Task = the o in
      let n : ℕ = (task w u).wakeups + 1 in
      cond_both (is_sleep (task w u).wait) _ _ Kept (λ _. spared w t (words.make_ready k w u) (spares_ready t w k u)) (λ _. wakeups_change w t (with_task w u (record (task w u) { wakeups = n })) u n refl)

  -- The calls on tasks.

  lives_task : (c : TaskCall) → CallLives (call.Task c) (called w p (task_row k w p c))
  unfolding task_rows words.finish opened
  lives_task (tasks.ActTsk id) =
      let o : Option Task = task_or_caller w p id in
      by_called w p (CallLives (call.Task (tasks.ActTsk id))) (act k w o) (refl, tt) (refused_lives (call.Task (tasks.ActTsk id)))
      (λ a. activates_named _ (the o) _ None (named_or_caller_is w p t id few (from_task w p false false a.rule) a.known) a.errors.0)
  lives_task (tasks.IactTsk id) =
      let o : Option Task = task_named w id in
      by_called w p (CallLives (call.Task (tasks.IactTsk id))) (in_handler (act k w o)) (refl, tt) (refused_lives (call.Task (tasks.IactTsk id)))
      (λ a. activates_named _ (the o) _ None (task_known w id few a.known t) a.errors.0)
  lives_task (tasks.MactTsk id to) =
      let o : Option Task = task_or_caller w p id in
      by_called w p (CallLives (call.Task (tasks.MactTsk id to))) (mact k w o to) (refl, tt) (refused_lives (call.Task (tasks.MactTsk id to)))
      (λ a. activates_named _ (the o) _ _ (named_or_caller_is w p t id few (from_task w p false false a.rule) (and_parts (is_some o) _ a.known).0) a.errors.0)
  lives_task (tasks.ImactTsk id to) =
      let o : Option Task = task_named w id in
      by_called w p (CallLives (call.Task (tasks.ImactTsk id to))) (in_handler (mact k w o to)) (refl, tt) (refused_lives (call.Task (tasks.ImactTsk id to)))
      (λ a. activates_named _ (the o) _ _ (task_known w id few (and_parts (is_some o) _ a.known).0 t) a.errors.0)
  lives_task (tasks.CanAct id) =
      let o : Option Task = task_or_caller w p id in
      let u : Task = the o in
      let r : TaskRecord = record (task w u) { activations = 0; kept = None } in
      by_called w p (CallLives (call.Task (tasks.CanAct id))) (can_act w o) tt (refused_lives (call.Task (tasks.CanAct id)))
      (λ a.
      subst (λ x. Back x u (with_task w u r)) (sym (named_or_caller_is w p t id few (from_task w p false false a.rule) a.known))
      (as_back (u.number == t.number) u (with_task w u r) (changed_by w t here u (with_task w u r) r refl 0 0 (task w u).activations (omega arith))))
  lives_task tasks.ExtTsk =
      let u : Task = caller w p in
      by_called w p (CallLives (call.Task tasks.ExtTsk)) (ext_tsk k w p) tt (refused_lives (call.Task tasks.ExtTsk))
      (λ a.
      let f : FromTask w p = from_task w p true false a.rule in
      finishes _ u (words.finish k (opened w p) u) (is_caller_of w p t f) (running_may k w p s u f.running).active refl)
  lives_task (tasks.TerTsk id) =
      let o : Option Task = task_named w id in
      by_called w p (CallLives (call.Task (tasks.TerTsk id))) (ter_tsk k w p o) (refl, (refl, tt)) (refused_lives (call.Task (tasks.TerTsk id)))
      (λ a. finishes _ (the o) (words.finish k w (the o)) (task_known w id few a.known t) (not-false _ (or_parts (is_dormant w (the o)) _ a.errors.1.0).0) refl)
  lives_task tasks.SlpTsk = lives_kept (tslp_tsk k w p forever) (lives_sleep forever)
  lives_task (tasks.TslpTsk timeout) = lives_kept (tslp_tsk k w p timeout) (lives_sleep timeout)
  lives_task (tasks.WupTsk id) = lives_kept (wup k w (task_or_caller w p id)) (lives_wup (task_or_caller w p id))
  lives_task (tasks.IwupTsk id) = lives_kept (in_handler (wup k w (task_named w id))) (lives_wup (task_named w id))
  lives_task (tasks.CanWup id) =
      let u : Task = the (task_or_caller w p id) in
      lives_kept (can_wup w (task_or_caller w p id)) (wakeups_change w t (with_task w u (record (task w u) { wakeups = 0 })) u 0 refl)
  lives_task (tasks.MigTsk id to) = lives_kept (mig_tsk k w p (task_or_caller w p id) to) (spared w t _ (spares_mig k w p t (task_or_caller w p id) to))
  lives_task (tasks.ChgPri id n) = lives_kept (chg_pri k w (task_or_caller w p id) n) (spared w t _ (spares_chg k w p t (task_or_caller w p id) n))
  lives_task (tasks.GetPri id) = lives_kept (get_pri w (task_or_caller w p id)) (spared w t w (spares_all t w))
  lives_task (tasks.RelWai id) = lives_kept (rel_wai k w (task_named w id)) (spared w t _ (spares_rel k w p t (task_named w id)))
  lives_task (tasks.IrelWai id) = lives_kept (in_handler (rel_wai k w (task_named w id))) (spared w t _ (spares_rel k w p t (task_named w id)))
  lives_task (tasks.SusTsk id) = lives_kept (sus_tsk k w p (task_or_caller w p id)) (spared w t _ (spares_sus k w p t (task_or_caller w p id)))
  lives_task (tasks.RsmTsk id) = lives_kept (rsm_tsk k w (task_named w id)) (spared w t _ (spares_rsm k w p t (task_named w id)))
  lives_task (tasks.DlyTsk time) = lives_kept (dly_tsk k w p time) (spared w t _ (spares_dly k w p t time))

  lives_call : (c : Call) → CallLives c (called w p (row_of k w p c))
  lives_call (call.Task c) = lives_task c
  lives_call c = unchanged w t (called w p (row_of k w p c)).0 (tally_call k w p t c refl)

-- each step keeps the lives that go on, are queued, ended or were taken back beside those that began
pub lives_step : {Q : Type 0} (k : Ordering Q) (w : World Q) (t : Task) → Safe k w → length w.tasks ≤ 64 → t.number ≤ length w.tasks → (e : Event) → Lives w t (step k w e).0 (step k w e).1
lives_step k w t s few here e =
    by_step k w (Lives w t) (λ v cs r x ps h. h) (λ p c. lives_call k w p t s few here c)
    (λ p c none. nothing_begun w t (report (event.Call p c) (runner_of w p) (plain answer.Idle)) refl (idle_ends t (runner_of w p) (event.Call p c)))
    (λ p. unchanged w t (tick k w p).0 (spares_tick k p t w)) (λ e r a no_call no_e. nothing_begun w t (report e r (plain a)) no_e (no_call_ends t r a e no_call)) e
