-- Who begins to run at the end of an event is not suspended.
use Rattle.std.proofs.Common.{◌≡◌, ◌≤◌, ◌==◌, Bool, true, false, not, ◌&&◌, ◌||◌, List, length, refl, sym, ap, ◌∙◌, subst, Option, Some, None, inl, inr, ⊎_elim}
use Rattle.std.specs.Prelude.{◌⊎◌, if◌then◌else◌, is_some}
use Rattle.std.proofs.lemmas.Bool.{cond_both, cond-true, and_parts, false≢true, eq-eqb, eqb-true}
use Rattle.fmp_codes.specs.declared.numbers.Proc.{Proc}
use Rattle.fmp_codes.specs.declared.numbers.Task.{Task}
use Rattle.fmp_codes.specs.declared.records.Answer.TheVariants as answer
use Rattle.fmp_codes.specs.declared.records.Event.{Event}
use Rattle.fmp_codes.specs.declared.records.Event.TheVariants as event
use Rattle.fmp_codes.specs.declared.records.Record.{Record}
use Rattle.fmp_codes.proofs.Same.{tasks_same}
use Rattle.fmp_setup.specs.Setup.{has_time}
use Rattle.fmp_rules.specs.Effects.{Effect}
use Rattle.fmp_rules.specs.declared.machine.Processor.{Processor}
use Rattle.fmp_rules.specs.declared.machine.TaskRecord.{TaskRecord}
use Rattle.fmp_rules.specs.World.{World, no_processor, item, with_item, task, processor, handler, runner_of, is_held}
use Rattle.fmp_rules.specs.Ordering.{Ordering, top, is_runnable}
use Rattle.fmp_rules.specs.Arrivals.{State, numbered, is_ready_on, comes_before, priority_in}
use Rattle.fmp_rules.specs.Rows.{called, plain}
use Rattle.fmp_rules.specs.Tick.{tick}
use Rattle.fmp_rules.specs.Step.{is_same, changed_run, requests, tops, settle, row_of, settled, before_event, unchanged, step}
use Rattle.fmp_law_safety.specs.First.{IsFirst}
use Rattle.fmp_law_safety.specs.Runs.{processor_of}
use Rattle.fmp_law_safety.specs.Safe.{Safe}
use Rattle.fmp_law_safety.proofs.Items.{item_same}
use Rattle.fmp_law_safety.proofs.First.{top_is_first}
use Rattle.fmp_law_safety.proofs.Keeps.{KeepsOthers, keeps_all}
use Rattle.fmp_law_safety.proofs.Calls.{occupied_at}
use Rattle.fmp_law_safety.proofs.KeepsTick.{keeps_tick}
use Rattle.fmp_law_safety.proofs.Listed.{numbered_lists}
use Rattle.fmp_law_safety.proofs.Settling.{length_each, with_latches, latches_at, settle_is}
use Rattle.fmp_law_safety.proofs.Stepping.{keeps_call}
use Rattle.fmp_law_records.specs.Suspensions.{begins_to_run}

module _ {Q : Type 0} (k : Ordering Q) (before : List (Option Task)) (v : World Q) (p : Proc) (n : p.number ≤ length v.processors) where
  abbrev cs : List Processor
  cs = with_latches v.processors (requests k before v p)

  abbrev pub RunsOrTop : World Q → Type 0
  RunsOrTop u = ((processor u p).running ≡ (processor v p).running) ⊎ ((processor u p).running ≡ top k v p)

  -- in the end the processor runs what it ran, or its top
  pub runs_or_top : RunsOrTop (settle k before v p)
  runs_or_top =
      let ds : List Processor = with_item cs p.number (record (item no_processor cs p.number) { running = top k v p; latch = false }) in
      subst RunsOrTop (sym (settle_is k before v p))
      (cond_both (is_held (record v { processors = cs }) p) cs ds (λ (xs : List Processor). RunsOrTop (record v { processors = xs }))
      (λ _. inl (ap (λ (c : Processor). c.running) (latches_at v.processors (requests k before v p) p n)))
      (λ _. inr (ap (λ (c : Processor). c.running) (item_same no_processor cs p.number _ p.least (rw (length_each (λ p c. record c { latch = true }) v.processors (requests k before v p)) n)))))

  pub tasks_settled : (settle k before v p).tasks ≡ v.tasks
  tasks_settled = ap (λ (u : World Q). u.tasks) (settle_is k before v p)

-- who begins to run did not run before
begun_is : (t : Task) (a b : Option Task) → begins_to_run t (changed_run a b) ≡ true → b ≡ Some t
begun_is t a b h = cond_both (is_same a b) None (Some b) (λ (x : Option (Option Task)). begins_to_run t x ≡ true → b ≡ Some t) (λ _ e. absurd (false≢true e)) (λ _ e. go b e) h
  where
    go : (o : Option Task) → begins_to_run t (Some o) ≡ true → o ≡ Some t
    go None e = absurd (false≢true e)
    go (Some u) e = ap Some (sym (tasks_same t u (eqb-true t.number u.number e)))

not_begun : (t : Task) (a : Option Task) → a ≡ Some t → begins_to_run t (changed_run a a) ≡ true → ⊥
not_begun t a is h =
    let same : is_same (Some t) (Some t) ≡ true = eq-eqb t.number t.number refl in
    let none : changed_run a a ≡ None = rw is (cond-true (is_same (Some t) (Some t)) None (Some (Some t)) same) in
    false≢true (sym (ap (begins_to_run t) none) ∙ h)

ready_is_not_suspended : (m : State) (p : Proc) (t : Task) → top numbered m p ≡ Some t → (task m t).suspended ≡ false
ready_is_not_suspended m p t e =
    let f : IsFirst (is_ready_on m.tasks p) (comes_before (priority_in m.tasks) m.order.ready) (length m.tasks) (Some t) =
    subst (IsFirst (is_ready_on m.tasks p) (comes_before (priority_in m.tasks) m.order.ready) (length m.tasks)) e (top_is_first m p) in
    let r : TaskRecord = task m t in
    let ready = and_parts (is_runnable r) (r.assigned.number == p.number) f.1 in
    not_true _ (and_parts (r.active && not (is_some r.wait)) (not r.suspended) ready.0).1
  where
    not_true : (b : Bool) → not b ≡ true → b ≡ false
    not_true false h = refl
    not_true true h = absurd (false≢true h)

module _ (m : State) (t : Task) (s : Safe numbered m) where
  abbrev Unsuspended : (State × Record) → Type 0
  Unsuspended x = begins_to_run t x.1.run_change ≡ true → (task x.0 t).suspended ≡ false

  begins_settled : (e : Event) (p : Proc) (did : State × Effect) → KeepsOthers m did.0 p → p.number ≤ length m.processors → Unsuspended (settled numbered (before_event numbered m e p) did)
  unfolding settled before_event
  begins_settled e p did keeps n h =
      let before : List (Option Task) = tops numbered m in
      let after : State = settle numbered before did.0 p in
      let a : Option Task = (processor m p).running in
      let b : Option Task = (processor after p).running in
      let is : b ≡ Some t = begun_is t a b h in
      ⊎_elim
      (λ (same : b ≡ (processor did.0 p).running).
      let stayed : b ≡ a = same ∙ keeps.running in
      absurd (not_begun t b is (subst (λ (x : Option Task). begins_to_run t (changed_run x b) ≡ true) (sym stayed) h)))
      (λ (first : b ≡ top numbered did.0 p).
      subst (λ (rs : List TaskRecord). (task (record after { tasks = rs }) t).suspended ≡ false) (sym (tasks_settled numbered before did.0 p (rw keeps.count n)))
      (ready_is_not_suspended did.0 p t (sym first ∙ is)))
      (runs_or_top numbered before did.0 p (rw keeps.count n))

  pub begins_unsuspended : (e : Event) → (processor_of e).number ≤ length m.processors → Unsuspended (step numbered m e)
  unfolding unchanged
  begins_unsuspended (event.Call p c) n =
      cond_both (is_some (runner_of m p)) _ _ Unsuspended
      (λ there. begins_settled (event.Call p c) p (called m p (row_of numbered m p c)) (keeps_call numbered m numbered_lists s p (p.least, n) there c) n) (λ _ e. absurd (false≢true e))
  begins_unsuspended (event.Tick p) n =
      cond_both (has_time m.timer p) _ _ Unsuspended
      (λ _.
      cond_both ((processor m p).locked || is_some (handler m p)) _ _ Unsuspended (λ _ e. absurd (false≢true e))
      (λ _. begins_settled (event.Tick p) p (tick numbered m p) (keeps_tick numbered numbered_lists m s p (p.least, n)) n))
      (λ _ e. absurd (false≢true e))
  begins_unsuspended (event.Ipi p) n =
      cond_both (is_held m p) _ _ Unsuspended (λ _ e. absurd (false≢true e))
      (λ _. begins_settled (event.Ipi p) p (m, plain (if (processor m p).latch then answer.Taken else answer.Nothing)) (keeps_all m p (occupied_at m p (s.processors p (p.least, n)))) n)
