-- A run by scripts is an order.
use Rattle.std.proofs.Common.{◌≡◌, ◌∙◌, ℕ, ◌+◌, ◌%◌, ◌<◌, ◌≤◌, ◌==◌, ◌⊎◌, inl, inr, Bool, true, false, ◌&&◌, cond, List, [], ◌∷◌, length, take, Option, Some, None, refl, ap, sym, subst, arith}
use Rattle.std.specs.Prelude.{slice_get, nat_lt}
use Rattle.std.specs.Option.{option_map}
use Rattle.std.specs.List.{All, slice_index_or}
use Rattle.std.proofs.lemmas.Bool.{eq-eqb}
use Rattle.std.proofs.lemmas.Bool.Decides.{nat_tests}
use Rattle.std.proofs.lemmas.List.{length-map}
use Rattle.std.proofs.lemmas.Nat.{mod_below}
use Rattle.std.proofs.lemmas.Option.{get_or_from_slice_get, slice_get-map, slice_get_within}
use Rattle.fmp_codes.specs.declared.numbers.Proc.{Proc}
use Rattle.fmp_codes.specs.declared.calls.Call.{Call}
use Rattle.fmp_codes.specs.declared.records.Event.{Event}
use Rattle.fmp_codes.specs.declared.records.Event.TheVariants as event
use Rattle.fmp_codes.specs.declared.records.Record.{Record}
use Rattle.fmp_codes.specs.declared.records.Runner.{Runner}
use Rattle.fmp_codes.specs.Records.{processor_of}
use Rattle.fmp_setup.specs.declared.setup.Timer.{Timer}
use Rattle.fmp_setup.specs.declared.setup.Timer.TheVariants as timer
use Rattle.fmp_setup.specs.Setup.{Setup, has_time}
use Rattle.fmp_setup.specs.Valid.{IsValid}
use Rattle.fmp_rules.specs.World.{runner_of}
use Rattle.fmp_text_scripts.specs.Scripts.{Steps}
use Rattle.fmp_smp_histories.specs.Counted.{taken}
use Rattle.fmp_smp_histories.specs.Histories.{events_of, state_after}
use Rattle.fmp_smp_histories.specs.Scripted.{IsScripted, choice, is_asked, next_call}
use Rattle.fmp_world.specs.declared.finishing.Ended.{Ended}
use Rattle.fmp_world.specs.declared.seats.Receipt.{Receipt}
use Rattle.fmp_world.specs.Ends.{IsSmpRun}
use Rattle.fmp_smp.specs.Rounds.{IsDue, TicksInTurn, first_ticked, rounds_of, ticked, ticks_taken}
use Rattle.fmp_smp.proofs.Wholes.{are_rounds}
use Rattle.fmp_search_orders.specs.Orders.{Happens, IsOrder, may_tick, counted}
use Rattle.fmp_law_runs.specs.Runs.{promptly}
use Rattle.fmp_law_runs.proofs.Counted.{left, due}

-- a call that is picked, and an interrupt
calls : (b : Bool) (p : Proc) (call : Call) (next : Option Event) → cond b (Some (event.Ipi p)) next ≡ Some (event.Call p call)
    → ((true && b) ≡ false) × (next ≡ Some (event.Call p call))
calls true p call next is = cc
calls false p call next is = (refl, is)

no_interrupt : (c : Setup) (scripts : List Steps) (h : List Record) (p : Proc) (o : Option Runner) → next_call c scripts h p o ≡ Some (event.Ipi p) → ⊥
no_interrupt c scripts h p None is = cc
no_interrupt c scripts h p (Some r) is = cc

asks : (b : Bool) (p : Proc) (next : Option Event) → (next ≡ Some (event.Ipi p) → ⊥) → cond b (Some (event.Ipi p)) next ≡ Some (event.Ipi p) → b ≡ true
asks true p next none is = refl
asks false p next none is = absurd (none is)

-- the processor whose tick is due is one whose ticks count
timed : (t : Timer) (n g : ℕ) (p : Proc) → (p.number ≡ first_ticked t + g % ticked t n) → has_time t p ≡ true
timed timer.Local n g p is = refl
timed (timer.Global master) n g p is =
    let small = mod_below g 1 (omega arith) in
    eq-eqb p.number master.number (omega (arith, is, small))

module _ (c : Setup) (scripts : List Steps) (ticks turns : ℕ) (h : List Record) (receipts : List (List Receipt)) (ended : Ended) (valid : IsValid c)
    (run : IsSmpRun c scripts ticks turns h receipts ended) (turned : TicksInTurn c ticks h) where
  -- each event is on a processor of the machine
  on_one : (k : ℕ) (r : Record) → slice_get h k ≡ Some r → (processor_of r.event).number ≤ c.processors
  on_one k r at =
      let small = slice_get_within h k r at in
      let there : slice_get (events_of h) k ≡ Some r.event = slice_get-map (λ (x : Record). x.event) h k ∙ ap (option_map (λ (x : Record). x.event)) at in
      let is = get_or_from_slice_get (events_of h) k r.event r.event there in
      subst (λ (e : Event). (processor_of e).number ≤ c.processors) is (run.run.on k r.event (omega (arith, small, length-map h (λ (x : Record). x.event))))

  ticks_so : (k : ℕ) (r : Record) (p : Proc) → slice_get h k ≡ Some r → r.event ≡ event.Tick p
      → may_tick c (promptly ticks) (counted (promptly ticks) (take k h)) p ≡ true
  ticks_so k r p at is =
      let small = slice_get_within h k r at in
      let some : taken p.number (take k h) < ticks = left c ticks h turned valid k r p (omega (arith, small)) at is in
      let g = ticks_taken (take k h) in
      let tick : IsDue (rounds_of c ticks g) p = due c ticks h turned valid k r p at is in
      let fit = are_rounds c.timer c.processors valid.has_processors valid.few_processors in
      let small_place = mod_below g (ticked c.timer c.processors) fit.2 in
      let number : p.number ≡ first_ticked c.timer + g % ticked c.timer c.processors =
      ap (λ (q : Proc). q.number) tick.1 ∙ omega (arith, fit.0, fit.1, small_place) in
      rw (timed c.timer c.processors g p number) (grind (arith, nat_tests, some))

  happens : (k : ℕ) (r : Record) (e : Event) → slice_get h k ≡ Some r → r.event ≡ e → IsScripted c scripts (take k h) e → Happens c scripts (promptly ticks) (take k h) e
  happens k r (event.Call p call) at is (inl tick) = absurd tick
  happens k r (event.Call p call) at is (inr picks) =
      calls (is_asked (state_after c (take k h)) p) p call (next_call c scripts (take k h) p (runner_of (state_after c (take k h)) p)) picks
  happens k r (event.Ipi p) at is (inl tick) = absurd tick
  happens k r (event.Ipi p) at is (inr picks) =
      asks (is_asked (state_after c (take k h)) p) p (next_call c scripts (take k h) p (runner_of (state_after c (take k h)) p))
      (no_interrupt c scripts (take k h) p (runner_of (state_after c (take k h)) p)) picks
  happens k r (event.Tick p) at is scripted = let so = ticks_so k r p at is in rw so refl

  pub an_order : IsOrder c scripts (promptly ticks) h
  an_order = record {
    run = run.run;
    in_order = λ k r at. (on_one k r at, happens k r r.event at refl (run.scripted k r at));
  }
