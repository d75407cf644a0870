-- What each event leaves.
use Rattle.std.proofs.Common.{◌≡◌, true, false, ◌||◌, List, [], ◌∷◌, map, length, ◌-◌, ◌<◌, ◌≤◌, Option, None, Some, refl, sym, ap, ◌∙◌, subst, ⊎_elim}
use Rattle.std.specs.Prelude.{if◌then◌else◌, is_some}
use Rattle.std.proofs.Math.Seq.{map-set_same}
use Rattle.std.proofs.lemmas.Bool.{cases_lt, cond_both}
use Rattle.std.proofs.lemmas.List.{get_or-set_same, set_past}
use Rattle.std.proofs.lemmas.Option.{none-some}
use Rattle.fmp_codes.specs.declared.numbers.Proc.{Proc}
use Rattle.fmp_codes.specs.declared.numbers.Task.{Task}
use Rattle.fmp_codes.specs.declared.records.Answer.{Answer}
use Rattle.fmp_codes.specs.declared.records.Answer.TheVariants as answer
use Rattle.fmp_codes.specs.declared.records.Event.{Event}
use Rattle.fmp_codes.specs.declared.records.Event.TheVariants as event
use Rattle.fmp_codes.specs.declared.records.Record.{Record}
use Rattle.fmp_rules.specs.Effects.{Effect}
use Rattle.fmp_rules.specs.declared.machine.Processor.{Processor}
use Rattle.fmp_setup.specs.Setup.{has_time}
use Rattle.fmp_rules.specs.World.{World, handler, is_held, item, no_processor, processor, runner_of, with_processor}
use Rattle.fmp_rules.specs.Ordering.{Ordering, top}
use Rattle.fmp_rules.specs.Rows.{called, plain}
use Rattle.fmp_rules.specs.Tick.{tick}
use Rattle.fmp_rules.specs.Step.{before_event, changed_run, dispatched, is_same, latched, requests, row_of, settled, step, tops, unchanged}
use Rattle.fmp_law_safety.proofs.Ending.{same_true}
use Rattle.fmp_law_safety.proofs.Settling.{settle_is}
use Rattle.fmp_law_footprint.specs.Frames.{Frame, moves_tasks, running_of}
use Rattle.fmp_law_footprint.proofs.Framed.{DidFrom, did_nothing, mapped_item, report}
use Rattle.fmp_law_footprint.proofs.Does.{did_call, did_tick}

-- no change is told of what runs
report_same : (a b : Option Task) → changed_run a b ≡ None → a ≡ b
report_same a b e = cond_both (is_same a b) None (Some b) (λ (c : Option (Option Task)). c ≡ None → a ≡ b) (λ same _. same_true a b same)
    (λ _ n. absurd (none-some b (sym n))) e

module _ {Q : Type 0} (k : Ordering Q) (w : World Q) where
  abbrev Framed : World Q × Record → Type 0
  Framed after = Frame w after.1 after.0

  runs_latched : (v : World Q) (ps : List Proc) → running_of (latched v ps) ≡ running_of v
  runs_latched v [] = refl
  runs_latched v (p ∷ ps) =
      let x : Processor = record (processor v p) { latch = true } in
      runs_latched (with_processor v p x) ps ∙ map-set_same (λ (c : Processor). c.running) v.processors (p.number - 1) x no_processor refl

  runs_at : (u v : World Q) (q : Proc) → running_of u ≡ running_of v → (processor u q).running ≡ (processor v q).running
  runs_at u v q same = sym (running_there u) ∙ ap (λ (os : List (Option Task)). item None os q.number) same ∙ running_there v
    where
      running_there : (x : World Q) → item None (running_of x) q.number ≡ (processor x q).running
      running_there x = mapped_item (λ (c : Processor). c.running) x.processors (q.number - 1) no_processor

  -- a processor that dispatches runs what it ran, if that is told
  runs_dispatched : (u : World Q) (q : Proc) → changed_run (processor u q).running (processor (dispatched k u q) q).running ≡ None
      → running_of (dispatched k u q) ≡ running_of u
  runs_dispatched u q =
      let x : Processor = record (processor u q) { running = top k u q; latch = false } in
      cond_both (is_held u q) u (with_processor u q x) (λ (v : World Q). changed_run (processor u q).running
      (processor v q).running ≡ None → running_of v ≡ running_of u) (λ _ e. refl)
      (λ _ e.
      ⊎_elim
      (λ (h : q.number - 1 < length u.processors).
      let top_is : (processor (with_processor u q x) q).running ≡ top k u q = ap (λ (c : Processor). c.running)
      (get_or-set_same u.processors (q.number - 1) x no_processor h) in
      map-set_same (λ (c : Processor). c.running) u.processors (q.number - 1) x no_processor
      (sym (report_same (processor u q).running (top k u q) (rw top_is at e))))
      (λ (h : length u.processors ≤ q.number - 1). ap (map (λ (c : Processor). c.running)) (set_past u.processors (q.number - 1) x h))
      (cases_lt (q.number - 1) (length u.processors)))

  -- the end of an event that did this
  framed_end : (e : Event) (q : Proc) (did : World Q × Effect) → DidFrom w e (runner_of w q) did → Framed (settled k (before_event k w e q) did)
  unfolding settled before_event
  framed_end e q did h =
      let ps : List Proc = requests k (tops k w) did.0 q in
      let u : World Q = latched did.0 ps in
      let same : moves_tasks (report e (runner_of w q) did.1) ≡ false → running_of u ≡ running_of w = λ m. runs_latched did.0 ps ∙ h.1 m in
      let run : Option Task → Option (Option Task) = λ o. changed_run o (processor (dispatched k u q) q).running in
      let is = settle_is k (tops k w) did.0 q in
      subst (λ v. Frame w (settled k (before_event k w e q) did).1 v) (sym is)
      (h.0 _ _ _
      (λ m n. ap (λ (x : World Q). running_of x) (sym is) ∙ runs_dispatched u q (ap run (runs_at u w q (same m)) ∙ n) ∙ same m))

  framed_unchanged : (e : Event) (q : Proc) (a : Answer) → Framed (unchanged w e q a)
  unfolding unchanged
  framed_unchanged e q a = (did_nothing w e (runner_of w q) (plain a)).0 w.processors None [] (λ _ _. refl)

  pub framed_step : (e : Event) → Framed (step k w e)
  framed_step (event.Call p c) =
      cond_both (is_some (runner_of w p)) _ _ Framed (λ _. framed_end (event.Call p c) p (called w p (row_of k w p c)) (did_call k w p (runner_of w p) c))
      (λ _. framed_unchanged (event.Call p c) p answer.Idle)
  framed_step (event.Tick p) =
      cond_both (has_time w.timer p) _ _ Framed
      (λ _.
      cond_both ((processor w p).locked || is_some (handler w p)) _ _ Framed (λ _. framed_unchanged (event.Tick p) p answer.Held)
      (λ _. framed_end (event.Tick p) p (tick k w p) (did_tick k w p (runner_of w p))))
      (λ _. framed_unchanged (event.Tick p) p answer.Nothing)
  framed_step (event.Ipi p) =
      cond_both (is_held w p) _ _ Framed (λ _. framed_unchanged (event.Ipi p) p answer.Held)
      (λ _.
      let x = plain (if (processor w p).latch then answer.Taken else answer.Nothing) in
      framed_end (event.Ipi p) p (w, x) (did_nothing w (event.Ipi p) (runner_of w p) x))

  -- a record tells its event
  pub report_event : (e : Event) → (step k w e).1.event ≡ e
  unfolding settled before_event unchanged
  report_event (event.Call p c) = cond_both (is_some (runner_of w p)) _ _ (λ (after : World Q × Record). after.1.event ≡ event.Call p c) (λ _. refl) (λ _. refl)
  report_event (event.Tick p) =
      let Report : World Q × Record → Type 0 = λ after. after.1.event ≡ event.Tick p in
      cond_both (has_time w.timer p) _ _ Report
      (λ _. cond_both ((processor w p).locked || is_some (handler w p)) _ _ Report (λ _. refl) (λ _. refl)) (λ _. refl)
  report_event (event.Ipi p) = cond_both (is_held w p) _ _ (λ (after : World Q × Record). after.1.event ≡ event.Ipi p) (λ _. refl) (λ _. refl)
