-- The record of a step tells its event; and a law of one step, from the calls and the ticks.
use Rattle.std.proofs.Common.{◌≡◌, false, ◌||◌, ◌&&◌, ap, List, refl, sym, subst, Option}
use Rattle.std.specs.Prelude.{if◌then◌else◌, is_some}
use Rattle.std.proofs.lemmas.Bool.{cond_both}
use Rattle.fmp_codes.specs.declared.numbers.Proc.{Proc}
use Rattle.fmp_codes.specs.declared.numbers.Task.{Task}
use Rattle.fmp_codes.specs.declared.calls.Call.{Call}
use Rattle.fmp_codes.specs.declared.records.Answer.{Answer}
use Rattle.fmp_codes.specs.declared.records.Answer.TheVariants as answer
use Rattle.fmp_codes.specs.declared.records.Event.{Event}
use Rattle.fmp_codes.specs.declared.records.Event.TheVariants as event
use Rattle.fmp_codes.specs.declared.records.Record.{Record}
use Rattle.fmp_codes.specs.Records.{is_taken}
use Rattle.fmp_setup.specs.declared.setup.Timer.{Timer}
use Rattle.fmp_setup.specs.Setup.{has_time}
use Rattle.fmp_law_balance.specs.Words.{is_clocked_by}
use Rattle.fmp_rules.specs.Effects.{Effect}
use Rattle.fmp_rules.specs.declared.machine.Processor.{Processor}
use Rattle.fmp_rules.specs.World.{World, processor, handler, runner_of, is_held}
use Rattle.fmp_rules.specs.Ordering.{Ordering}
use Rattle.fmp_rules.specs.Rows.{called, plain}
use Rattle.fmp_rules.specs.Tick.{tick}
use Rattle.fmp_rules.specs.Step.{tops, row_of, settled, before_event, unchanged, step}
use Rattle.fmp_law_safety.proofs.Settling.{settle_is}
use Rattle.fmp_law_balance.proofs.Steps.{report}
use Rattle.fmp_law_balance.specs.Accepted.{is_accepted}
use Rattle.fmp_law_balance.specs.Waits.Waits.{is_tick_for}

module _ {Q : Type 0} (k : Ordering Q) (w : World Q) where
  abbrev Tells : Event → World Q × Record → Type 0
  Tells e after = after.1.event ≡ e

  pub event_reported : (e : Event) → (step k w e).1.event ≡ e
  unfolding settled before_event unchanged
  event_reported (event.Call p c) = cond_both (is_some (runner_of w p)) _ _ (Tells (event.Call p c)) (λ _. refl) (λ _. refl)
  event_reported (event.Tick p) =
      cond_both (has_time w.timer p) _ _ (Tells (event.Tick p)) (λ _. cond_both ((processor w p).locked || is_some (handler w p)) _ _ (Tells (event.Tick p)) (λ _. refl) (λ _. refl)) (λ _. refl)
  event_reported (event.Ipi p) = cond_both (is_held w p) _ _ (Tells (event.Ipi p)) (λ _. refl) (λ _. refl)

-- A law that says nothing of the processors, of the change of the running task and of requests holds of a step where it holds
-- of what each call and a tick that is taken do, and of the answers of all other events.
module _ {Q : Type 0} (k : Ordering Q) (w : World Q) (L : World Q → Record → Type 0)
    (blind : (v : World Q) (cs : List Processor) (r : Record) (x : Option (Option Task)) (ps : List Proc) →
    L v r → L (record v { processors = cs }) (record r { run_change = x; requests = ps }))
    (calls : (p : Proc) (c : Call) → L (called w p (row_of k w p c)).0 (report (event.Call p c) (runner_of w p) (called w p (row_of k w p c)).1))
    (idles : (p : Proc) (c : Call) → L w (report (event.Call p c) (runner_of w p) (plain answer.Idle)))
    (ticks : (p : Proc) → L (tick k w p).0 (report (event.Tick p) (runner_of w p) (tick k w p).1))
    (held : (p : Proc) → L w (report (event.Tick p) (runner_of w p) (plain answer.Held)))
    (early : (p : Proc) → L w (report (event.Tick p) (runner_of w p) (plain answer.Nothing)))
    (interrupts : (p : Proc) (a : Answer) → is_accepted a ≡ false → L w (report (event.Ipi p) (runner_of w p) (plain a))) where
  abbrev After : World Q × Record → Type 0
  After after = L after.0 after.1

  settles : (e : Event) (q : Proc) (did : World Q × Effect) → L did.0 (report e (runner_of w q) did.1) → After (settled k (before_event k w e q) did)
  unfolding settled before_event
  settles e q did h =
      subst (λ v. L v (settled k (before_event k w e q) did).1) (sym (settle_is k (tops k w) did.0 q)) (blind did.0 _ (report e (runner_of w q) did.1) _ _ h)

  pub by_event : (e : Event) → L (step k w e).0 (step k w e).1
  unfolding unchanged
  by_event (event.Call p c) =
      cond_both (is_some (runner_of w p)) _ _ After (λ _. settles (event.Call p c) p (called w p (row_of k w p c)) (calls p c)) (λ _. idles p c)
  by_event (event.Tick p) =
      cond_both (has_time w.timer p) _ _ After
      (λ _. cond_both ((processor w p).locked || is_some (handler w p)) _ _ After (λ _. held p) (λ _. settles (event.Tick p) p (tick k w p) (ticks p)))
      (λ _. early p)
  by_event (event.Ipi p) =
      cond_both (is_held w p) _ _ After (λ _. interrupts p answer.Held refl)
      (λ _. settles (event.Ipi p) p (w, plain (if (processor w p).latch then answer.Taken else answer.Nothing))
      (interrupts p _ (cond_both (processor w p).latch answer.Taken answer.Nothing (λ a. is_accepted a ≡ false) (λ _. refl) (λ _. refl))))

-- what holds after a tick that was taken holds after its step, where it says nothing of the processors
pub tick_state : {Q : Type 0} (k : Ordering Q) (w : World Q) (p : Proc) (P : World Q → Type 0) → ((v : World Q) (cs : List Processor) → P v → P (record v { processors = cs })) →
    P (tick k w p).0 → (step k w (event.Tick p)).1.answer ≡ answer.Taken → P (step k w (event.Tick p)).0
unfolding settled before_event unchanged
tick_state k w p P blind h =
    cond_both (has_time w.timer p) _ _ (λ (after : World _ × Record). after.1.answer ≡ answer.Taken → P after.0)
    (λ _.
    cond_both ((processor w p).locked || is_some (handler w p)) _ _ (λ (after : World _ × Record). after.1.answer ≡ answer.Taken → P after.0) (λ _ e. absurd (cc))
    (λ _ e. subst P (sym (settle_is k (tops k w) (tick k w p).0 p)) (blind (tick k w p).0 _ h)))
    (λ _ e. absurd (cc))

-- what is not taken is no tick that counts
pub untaken : (timer : Timer) (q : Proc) (a : Answer) (e : Event) → is_taken a ≡ false → is_tick_for timer q a e ≡ false
untaken timer q a (event.Tick p) none = ap (λ b. b && is_clocked_by timer p q) none
untaken timer q a e none = refl
