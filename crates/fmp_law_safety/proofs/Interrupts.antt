-- The laws of interrupts and of dispatching.
use Rattle.std.proofs.Common.{◌≡◌, ℕ, zero, suc, ◌+◌, ◌-◌, ◌<◌, ◌≤◌, ◌==◌, Bool, true, false, not, ◌||◌, List, [], length, map, filter, refl, sym, ap, ◌∙◌, subst, arith, Option, None}
use Rattle.std.specs.Prelude.{is_some, if◌then◌else◌, slice_set}
use Rattle.std.specs.List.{range_with_len}
use Rattle.std.proofs.lemmas.Bool.{both_ways, cond_both, cond-false, and_right, not_from_true}
use Rattle.std.proofs.lemmas.List.{set-get_or}
use Rattle.fmp_codes.specs.Numbers.{as_proc, within}
use Rattle.fmp_codes.specs.declared.numbers.Proc.{Proc}
use Rattle.fmp_codes.specs.declared.numbers.Task.{Task}
use Rattle.fmp_codes.specs.declared.records.Answer.TheVariants as answer
use Rattle.fmp_codes.specs.declared.records.Event.{Event}
use Rattle.fmp_codes.specs.declared.records.Event.TheVariants as event
use Rattle.fmp_codes.specs.declared.records.Record.{Record}
use Rattle.fmp_rules.specs.declared.machine.Processor.{Processor}
use Rattle.fmp_setup.specs.Setup.{has_time}
use Rattle.fmp_rules.specs.World.{World, no_processor, item, with_item, processor, handler, runner_of, is_held}
use Rattle.fmp_rules.specs.Ordering.{Ordering, top}
use Rattle.fmp_rules.specs.Effects.{Effect}
use Rattle.fmp_rules.specs.Rows.{called, plain}
use Rattle.fmp_rules.specs.Tick.{tick}
use Rattle.fmp_rules.specs.Step.{is_same, tops, is_requested, requests, settle, row_of, settled, before_event, unchanged, step}
use Rattle.fmp_rules.proofs.Runners.{same_as_itself}
use Rattle.fmp_law_safety.specs.Safe.{IsNumberOf, SafeAt}
use Rattle.fmp_law_safety.specs.Runs.{processor_of}
use Rattle.fmp_law_safety.specs.Laws.{FindsNothing, TakesRequest, Settles, RunsTop}
use Rattle.fmp_law_safety.proofs.Items.{item_same}
use Rattle.fmp_law_safety.proofs.Settling.{top_before, with_latches, length_each, latches_at, at_end, settle_is}
use Rattle.fmp_law_safety.proofs.Stepping.{keeps_call}
use Rattle.fmp_law_safety.proofs.KeepsTick.{keeps_tick}
use Rattle.fmp_law_safety.proofs.Queues.{Lists}

-- Where nothing was changed.

none_pass : (test : Proc → Bool) (a n : ℕ) → 1 ≤ a → ((q : Proc) → q.number < a + n → test q ≡ false) → filter test (map as_proc (range_with_len a n)) ≡ []
none_pass test a zero l f = refl
none_pass test a (suc n) l f =
    let low : within 8 a < a + suc n = omega (arith, l) in
    rw (f (as_proc a) low) (none_pass test (a + 1) n (omega arith) (λ q h. f q (omega (arith, h))))

as_it_was : (c : Processor) (o : Option Task) → c.running ≡ o → c.latch ≡ false → record c { running = o; latch = false } ≡ c
as_it_was c o e f = subst (λ (x : Option Task). record c { running = x; latch = false } ≡ c) e (subst (λ b. record c { running = c.running; latch = b } ≡ c) f refl)

module _ {Q : Type 0} (k : Ordering Q) (w : World Q) (p : Proc) where
  no_requests : requests k (tops k w) w p ≡ []
  no_requests =
      none_pass (is_requested k (tops k w) w p) 1 (length w.processors) (omega arith)
      (λ q h.
      let n : IsNumberOf w.processors q.number = (q.least, omega (arith, h)) in
      let same : is_same (item None (tops k w) q.number) (top k w q) ≡ true = rw (top_before k w q n) (same_as_itself (top k w q)) in
      and_right (not (q.number == p.number)) _ (not_from_true _ same))

  -- from a safe state the end of an event that did nothing changes nothing where the processor is free and no request is pending
  settle_nothing : SafeAt k w p → is_held w p ≡ false → (processor w p).latch ≡ false → settle k (tops k w) w p ≡ w
  settle_nothing s free latch =
      settle_is k (tops k w) w p
      ∙ ap (λ rs. record w { processors = at_end k w (with_latches w.processors rs) p }) no_requests
      ∙ ap (λ ds. record w { processors = ds })
      (rw free
      (ap (slice_set w.processors (p.number - 1)) (as_it_was (processor w p) (top k w p) (s.dispatched latch free) latch) ∙ set-get_or w.processors (p.number - 1) no_processor))

module _ {Q : Type 0} (k : Ordering Q) (w : World Q) where
  -- what an interrupt answers and does on a processor that is not held
  abbrev interrupted : Proc → World Q × Record
  interrupted p = settled k (before_event k w (event.Ipi p) p) (w, plain (if (processor w p).latch then answer.Taken else answer.Nothing))

  pub finds_nothing : (e : Event) → FindsNothing k w e (step k w e).1 (step k w e).0
  unfolding settled before_event unchanged
  finds_nothing (event.Ipi p) = λ s n free latch.
      let e : step k w (event.Ipi p) ≡ interrupted p = cond-false (is_held w p) _ _ free in (
        ap (λ (x : World Q × Record). x.1.answer) e ∙ cond-false (processor w p).latch _ _ latch,
        ap (λ (x : World Q × Record). x.0) e ∙ settle_nothing k w p (s.processors p (p.least, n)) free latch,
      )
  finds_nothing (event.Tick p) = tt
  finds_nothing (event.Call p c) = tt

-- A processor at the end of its event.

module _ {Q : Type 0} (k : Ordering Q) (before : List (Option Task)) (v : World Q) (p : Proc) (n : p.number ≤ length v.processors) where
  abbrev cs : List Processor
  cs = with_latches v.processors (requests k before v p)

  abbrev held_with : List Processor → Bool
  held_with ds = is_held (record v { processors = ds }) p

  here : item no_processor (with_item cs p.number (record (item no_processor cs p.number) { running = top k v p; latch = false })) p.number
      ≡ record (item no_processor cs p.number) { running = top k v p; latch = false }
  here = item_same no_processor cs p.number _ p.least (rw (length_each (λ p c. record c { latch = true }) v.processors (requests k before v p)) n)

  abbrev held_here : Processor → Bool
  held_here c = is_some (handler v p) || c.locked || c.disabled

  abbrev pub RunsTopThen : World Q → Type 0
  RunsTopThen u = is_held u p ≡ false → ((processor u p).running ≡ top k u p) × ((processor u p).latch ≡ false)

  -- where it is not held in the end it runs its top, and no request is pending
  pub runs_top_then : RunsTopThen (settle k before v p)
  runs_top_then =
      subst RunsTopThen (sym (settle_is k before v p))
      (cond_both (held_with cs) cs _ (λ (ds : List Processor). RunsTopThen (record v { processors = ds }))
      (λ held free. absurd (both_ways _ free held))
      (λ free _. (ap (λ (c : Processor). c.running) here, ap (λ (c : Processor). c.latch) here)))

  abbrev pub FreeThen : World Q → Type 0
  FreeThen u = (is_held u p ≡ false) × ((processor u p).latch ≡ false)

  -- where it was not held, it is not in the end
  pub free_then : is_held v p ≡ false → FreeThen (settle k before v p)
  free_then free =
      let same : held_with cs ≡ is_held v p = ap held_here (latches_at v.processors (requests k before v p) p n) in
      subst FreeThen (sym (settle_is k before v p))
      (cond_both (held_with cs) cs _ (λ (ds : List Processor). FreeThen (record v { processors = ds }))
      (λ held. absurd (both_ways _ (same ∙ free) held))
      (λ f. (ap held_here here ∙ f, ap (λ (c : Processor). c.latch) here)))

module _ {Q : Type 0} (k : Ordering Q) (w : World Q) (lists : (v : World Q) → Lists k v) where
  pub takes_request : (e : Event) → TakesRequest w e (step k w e).1 (step k w e).0
  unfolding settled before_event unchanged
  takes_request (event.Ipi p) = λ n.
      cond_both (is_held w p) (unchanged w (event.Ipi p) p answer.Held) (interrupted k w p) (λ (x : World Q × Record). x.1.answer ≡ answer.Taken → (is_held x.0 p ≡ false) × ((processor x.0 p).latch ≡ false))
      (λ _ e. absurd (cc)) (λ free e. free_then k (tops k w) w p n free)
  takes_request (event.Tick p) = tt
  takes_request (event.Call p c) = tt

  abbrev RunsTopAfter : Event → (World Q × Record) → Type 0
  RunsTopAfter e x = Settles x.1 → is_held x.0 (processor_of e) ≡ false → ((processor x.0 (processor_of e)).running ≡ top k x.0 (processor_of e)) × ((processor x.0 (processor_of e)).latch ≡ false)

  ended_runs : (e : Event) (did : World Q × Effect) → (processor_of e).number ≤ length did.0.processors → RunsTopAfter e (settled k (before_event k w e (processor_of e)) did)
  unfolding settled before_event unchanged
  ended_runs e did n = λ s. runs_top_then k (tops k w) did.0 (processor_of e) n

  idle_runs : (e : Event) → RunsTopAfter e (unchanged w e (processor_of e) answer.Idle)
  unfolding unchanged
  idle_runs e = λ s. absurd (s.answered refl)

  held_runs : (e : Event) → RunsTopAfter e (unchanged w e (processor_of e) answer.Held)
  unfolding unchanged
  held_runs e = λ s. absurd (s.taken refl)

  elsewhere_runs : (p : Proc) → RunsTopAfter (event.Tick p) (unchanged w (event.Tick p) p answer.Nothing)
  unfolding unchanged
  elsewhere_runs p = λ s. absurd (s.counted p refl refl)

  pub runs_top : (e : Event) → RunsTop k w e (step k w e).1 (step k w e).0
  runs_top (event.Call p c) = λ s n.
      cond_both (is_some (runner_of w p)) _ _ (RunsTopAfter (event.Call p c))
      (λ there. ended_runs (event.Call p c) (called w p (row_of k w p c)) (rw (keeps_call k w lists s p (p.least, n) there c).count n)) (λ _. idle_runs (event.Call p c))
  runs_top (event.Tick p) = λ s n.
      cond_both (has_time w.timer p) _ _ (RunsTopAfter (event.Tick p))
      (λ _.
      cond_both ((processor w p).locked || is_some (handler w p)) _ _ (RunsTopAfter (event.Tick p)) (λ _. held_runs (event.Tick p)) (λ _. ended_runs (event.Tick p) (tick k w p) (rw (keeps_tick k lists w s p (p.least, n)).count n)))
      (λ _. elsewhere_runs p)
  runs_top (event.Ipi p) = λ s n.
      cond_both (is_held w p) _ _ (RunsTopAfter (event.Ipi p)) (λ _. held_runs (event.Ipi p))
      (λ _. ended_runs (event.Ipi p) (w, plain (if (processor w p).latch then answer.Taken else answer.Nothing)) n)

-- what a step leads to keeps the laws
module _ {Q : Type 0} (k : Ordering Q) (w : World Q) (lists : (v : World Q) → Lists k v) (new : World Q) (e : Event) (did : Record) (made : (new, did) ≡ step k w e) where
  pub made_nothing : FindsNothing k w e did new
  made_nothing = subst (λ (x : World Q × Record). FindsNothing k w e x.1 x.0) (sym made) (finds_nothing k w e)

  pub made_taken : TakesRequest w e did new
  made_taken = subst (λ (x : World Q × Record). TakesRequest w e x.1 x.0) (sym made) (takes_request k w lists e)

  pub made_top : RunsTop k w e did new
  made_top = subst (λ (x : World Q × Record). RunsTop k w e x.1 x.0) (sym made) (runs_top k w lists e)
