-- Every step keeps what every reachable state keeps.
use Rattle.std.proofs.Common.{◌≡◌, ◌≤◌, ◌==◌, true, not, ◌||◌, ◌&&◌, List, [], ◌∷◌, length, refl, subst, arith, Option, Some, None}
use Rattle.std.specs.Prelude.{is_some, is_none, take}
use Rattle.std.proofs.lemmas.Bool.{and_parts, and_from, cond_both, false≢true}
use Rattle.std.proofs.lemmas.List.Elements.{All-tail, All-take}
use Rattle.fmp_codes.specs.declared.numbers.Proc.{Proc}
use Rattle.fmp_codes.specs.declared.calls.Call.{Call}
use Rattle.fmp_codes.specs.declared.calls.Call.TheVariants as call
use Rattle.fmp_codes.specs.declared.records.Event.{Event}
use Rattle.fmp_codes.specs.declared.records.Event.TheVariants as event
use Rattle.fmp_codes.specs.declared.records.Record.{Record}
use Rattle.fmp_rules.specs.declared.machine.TaskRecord.{TaskRecord}
use Rattle.fmp_rules.specs.declared.machine.Wait.{Wait}
use Rattle.fmp_setup.specs.Setup.{has_time}
use Rattle.fmp_rules.specs.World.{World, task, processor, handler, runner_of, is_held}
use Rattle.fmp_rules.specs.Ordering.{Ordering, is_runnable}
use Rattle.fmp_rules.specs.Arrivals.{State, numbered, is_ready_on, comes_before, priority_in}
use Rattle.fmp_rules.specs.Rows.{called}
use Rattle.fmp_rules.specs.Tick.{tick}
use Rattle.fmp_rules.specs.Step.{tops, settle, row_of, settled, before_event, unchanged, step, replay}
use Rattle.fmp_law_safety.specs.First.{IsFirst}
use Rattle.fmp_law_safety.specs.Runs.{processor_of, AreOn, IsSafeThroughout}
use Rattle.fmp_law_safety.specs.Safe.{IsNumberOf, may_run_on, Safe}
use Rattle.fmp_law_safety.proofs.First.{top_is_first}
use Rattle.fmp_law_safety.proofs.Keeps.{KeepsOthers, keeps_all}
use Rattle.fmp_law_safety.proofs.Settling.{TopsMayRun}
use Rattle.fmp_law_safety.proofs.Ending.{safe_settle, length_settle}
use Rattle.fmp_law_safety.proofs.Queues.{Lists}
use Rattle.fmp_law_safety.proofs.Listed.{numbered_lists}
use Rattle.fmp_law_safety.proofs.Calls.{occupied_at}
use Rattle.fmp_law_safety.proofs.TaskCalls.{keeps_task_call}
use Rattle.fmp_law_safety.proofs.SyncCalls.{keeps_sync}
use Rattle.fmp_law_safety.proofs.BufferCalls.{keeps_buffer}
use Rattle.fmp_law_safety.proofs.TimeCalls.{keeps_time}
use Rattle.fmp_law_safety.proofs.SpinCalls.{keeps_spin, keeps_ret}
use Rattle.fmp_law_safety.proofs.SystemCalls.{keeps_system}
use Rattle.fmp_law_safety.proofs.KeepsTick.{keeps_tick}

no_wait : (o : Option Wait) → not (is_some o) ≡ true → is_none o ≡ true
no_wait None e = refl
no_wait (Some x) e = absurd (false≢true e)

ready_may_run : (p : Proc) (r : TaskRecord) → (is_runnable r && r.assigned.number == p.number) ≡ true → may_run_on p r ≡ true
ready_may_run p r e =
    let ready = and_parts (is_runnable r) (r.assigned.number == p.number) e in
    let runnable = and_parts (r.active && not (is_some r.wait)) (not r.suspended) ready.0 in
    let active = and_parts r.active (not (is_some r.wait)) runnable.0 in
    and_from _ _ active.0 (and_from _ _ ready.1 (no_wait r.wait active.1))

pub numbered_tops : (m : State) → TopsMayRun numbered m
numbered_tops m p t e =
    let f : IsFirst (is_ready_on m.tasks p) (comes_before (priority_in m.tasks) m.order.ready) (length m.tasks) (Some t) =
    subst (IsFirst (is_ready_on m.tasks p) (comes_before (priority_in m.tasks) m.order.ready) (length m.tasks)) e (top_is_first m p) in
    ready_may_run p (task m t) f.1

module _ {Q : Type 0} (k : Ordering Q) (w : World Q) (lists : (v : World Q) → Lists k v) (s : Safe k w) (p : Proc) (within : IsNumberOf w.processors p.number) where
  pub keeps_call : is_some (runner_of w p) ≡ true → (c : Call) → KeepsOthers w (called w p (row_of k w p c)).0 p
  keeps_call there (call.Task c) = keeps_task_call k w p s within there c
  keeps_call there (call.Sync c) = keeps_sync k w (lists w) p s within c
  keeps_call there (call.Buffer c) = keeps_buffer k w (lists w) p s within c
  keeps_call there (call.Time c) = keeps_time k w p s within c
  keeps_call there (call.System c) = keeps_system k w p s within there c
  keeps_call there (call.Spin c) = keeps_spin k w p s within there c
  keeps_call there call.RetHdr = keeps_ret k w p s within

  keeps_nothing : KeepsOthers w w p
  keeps_nothing = keeps_all w p (occupied_at w p (s.processors p within))

module _ {Q : Type 0} (k : Ordering Q) (may_run : (w : World Q) → TopsMayRun k w) (lists : (w : World Q) → Lists k w) where
  -- safe, with as many processors
  pub record Stays (w v : World Q) : Type 0 where
    pub safe : Safe k v
    pub count : length v.processors ≡ length w.processors

  module _ (w : World Q) (s : Safe k w) (p : Proc) (within : IsNumberOf w.processors p.number) where
    ends : (v : World Q) → KeepsOthers w v p → Stays w (settle k (tops k w) v p)
    ends v h = record { safe = safe_settle k w v p s h (may_run v) within; count = length_settle k w v p s h (may_run v) within }

    stays : Stays w w
    stays = record { safe = s; count = refl }

  abbrev After : World Q → (World Q × Record) → Type 0
  After w after = Stays w after.0

  pub safe_step : (w : World Q) (e : Event) → Safe k w → IsNumberOf w.processors (processor_of e).number → Stays w (step k w e).0
  unfolding settled before_event unchanged
  safe_step w (event.Call p c) s n =
      cond_both (is_some (runner_of w p)) _ _ (After w) (λ there. ends w s p n (called w p (row_of k w p c)).0 (keeps_call k w lists s p n there c)) (λ _. stays w s p n)
  safe_step w (event.Tick p) s n =
      cond_both (has_time w.timer p) _ _ (After w)
      (λ _. cond_both ((processor w p).locked || is_some (handler w p)) _ _ (After w) (λ _. stays w s p n) (λ _. ends w s p n (tick k w p).0 (keeps_tick k lists w s p n)))
      (λ _. stays w s p n)
  safe_step w (event.Ipi p) s n =
      cond_both (is_held w p) _ _ (After w) (λ _. stays w s p n) (λ _. ends w s p n w (keeps_nothing k w lists s p n))

  pub safe_replay : (w : World Q) (es : List Event) → Safe k w → AreOn (length w.processors) es → Safe k (replay k w es)
  safe_replay w [] s a = s
  safe_replay w (e ∷ es) s a =
      let one = safe_step w e s ((processor_of e).least, a 0 e (omega arith)) in
      let P : Event → Type 0 = λ x. (processor_of x).number ≤ length w.processors in
      safe_replay (step k w e).0 es one.safe (rw one.count (All-tail P e es a))

pub safe_throughout : (m : State) (es : List Event) → Safe numbered m → AreOn (length m.processors) es → IsSafeThroughout m es
safe_throughout m es s a n =
    let P : Event → Type 0 = λ x. (processor_of x).number ≤ length m.processors in
    safe_replay numbered numbered_tops numbered_lists m (take n es) s (All-take P n es a)
