-- Events that answer `idle`, `held` or `none` change nothing.
use Rattle.std.proofs.Common.{◌≡◌, ◌≤◌, Bool, true, false, ◌&&◌, ◌||◌, not, ◌∙◌, List, [], ◌∷◌, ◌++◌, length, Option, None, Some, refl, ap, arith}
use Rattle.std.specs.Prelude.{is_some}
use Rattle.std.proofs.lemmas.Bool.{both_ways, cond_both, cond-true, cond-false}
use Rattle.std.proofs.lemmas.List.Elements.{All-nil, All-cons, All-append}
use Rattle.fmp_codes.specs.declared.calls.Call.{Call}
use Rattle.fmp_codes.specs.declared.numbers.Proc.{Proc}
use Rattle.fmp_codes.specs.declared.records.Event.{Event}
use Rattle.fmp_codes.specs.declared.records.Event.TheVariants as event
use Rattle.fmp_codes.specs.declared.records.Record.{Record}
use Rattle.fmp_codes.specs.declared.records.Runner.{Runner}
use Rattle.fmp_codes.specs.Records.{is_taken}
use Rattle.fmp_setup.specs.Setup.{Setup, has_time}
use Rattle.fmp_setup.specs.Valid.{IsValid}
use Rattle.fmp_rules.specs.World.{processor, handler, runner_of, is_held}
use Rattle.fmp_rules.specs.Arrivals.{State, numbered}
use Rattle.fmp_rules.specs.Step.{step, replay, answers, settled, before_event, unchanged}
use Rattle.fmp_rules.specs.Boot.{booted}
use Rattle.fmp_law_safety.specs.Safe.{Safe}
use Rattle.fmp_law_safety.specs.Runs.{processor_of, AreOn}
use Rattle.fmp_law_safety.proofs.Interrupts.{finds_nothing}
use Rattle.fmp_law_balance.specs.Waits.Waits.{nobody_waits, after_records}
use Rattle.fmp_law_records.proofs.counts.Ready.{Ready, ready_later, ready_at_boot}
use Rattle.fmp_law_records.specs.Quiet.{ChangesNothing}
use Rattle.fmp_law_records.proofs.Requests.{interrupt_taken, tick_taken}

module _ (m : State) where
  -- a call
  abbrev CallStays : Event → (State × Record) → Type 0
  CallStays e x = ChangesNothing m e x.1 x.0

  no_runner : (r : Option Runner) → is_some r ≡ true → r ≡ None → ⊥
  no_runner None is none = cc
  no_runner (Some r) is none = cc

  call_quiet : (p : Proc) (c : Call) → CallStays (event.Call p c) (step numbered m (event.Call p c))
  unfolding settled before_event unchanged
  call_quiet p c =
      cond_both (is_some (runner_of m p)) _ _ (CallStays (event.Call p c)) (λ some. λ none. absurd (no_runner (runner_of m p) some none)) (λ _. λ none. (refl, refl))

  -- a tick
  tick_quiet : (p : Proc) → is_taken (step numbered m (event.Tick p)).1.answer ≡ false → (step numbered m (event.Tick p)).0 ≡ m
  unfolding unchanged
  tick_quiet p none = by (has_time m.timer p) ((processor m p).locked || is_some (handler m p)) refl refl
    where
      by : (time busy : Bool) → has_time m.timer p ≡ time → ((processor m p).locked || is_some (handler m p)) ≡ busy → (step numbered m (event.Tick p)).0 ≡ m
      by false busy time held = ap (λ (x : State × Record). x.0) (cond-false (has_time m.timer p) _ _ time)
      by true true time held = ap (λ (x : State × Record). x.0) (cond-true (has_time m.timer p) _ _ time ∙ cond-true ((processor m p).locked || is_some (handler m p)) _ _ held)
      by true false time free =
          absurd (both_ways _ none (tick_taken m p ∙ ap (λ b. b && not ((processor m p).locked || is_some (handler m p))) time ∙ ap (λ b. true && not b) free))

  -- an interrupt
  ipi_quiet : (p : Proc) → Safe numbered m → p.number ≤ length m.processors → is_taken (step numbered m (event.Ipi p)).1.answer ≡ false → (step numbered m (event.Ipi p)).0 ≡ m
  unfolding unchanged
  ipi_quiet p safe here none = by (is_held m p) (processor m p).latch refl refl
    where
      by : (h l : Bool) → is_held m p ≡ h → (processor m p).latch ≡ l → (step numbered m (event.Ipi p)).0 ≡ m
      by true l held latch = ap (λ (x : State × Record). x.0) (cond-true (is_held m p) _ _ held)
      by false true free latch = absurd (both_ways _ none (interrupt_taken m p ∙ ap (λ b. b && not (is_held m p)) latch ∙ ap (λ b. true && not b) free))
      by false false free latch = (finds_nothing numbered m (event.Ipi p) safe here free latch).1

module _ (c : Setup) (events : List Event) (valid : IsValid c) (on : AreOn c.processors events) where
  abbrev m : State
  m = replay numbered (booted c) events

  ready_for : (e : Event) → (processor_of e).number ≤ c.processors → Ready c (after_records c nobody_waits (answers numbered (booted c) events)) m (e ∷ [])
  ready_for e within =
      let Within : Event → Type 0 = λ y. (processor_of y).number ≤ c.processors in
      let with_last : AreOn c.processors (events ++ e ∷ []) = All-append Within events (e ∷ []) on (All-cons Within e [] within (All-nil Within)) in
      ready_later c nobody_waits (booted c) events (e ∷ []) (ready_at_boot c valid (events ++ e ∷ []) with_last)

  pub quiet_stays : (e : Event) → (processor_of e).number ≤ c.processors → ChangesNothing m e (step numbered m e).1 (step numbered m e).0
  quiet_stays (event.Call p call) within = call_quiet m p call
  quiet_stays (event.Tick p) within = tick_quiet m p
  quiet_stays (event.Ipi p) within = let ready = ready_for (event.Ipi p) within in ipi_quiet m p ready.safe (ready.on 0 (event.Ipi p) (omega arith))
