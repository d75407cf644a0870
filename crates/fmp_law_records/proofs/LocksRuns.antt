-- Who holds a spin lock along a run.
use Rattle.std.proofs.Common.{◌≡◌, ℕ, ◌+◌, ◌≤◌, false, List, [], ◌∷◌, length, refl, sym, ap, ◌∙◌, subst, Option, None}
use Rattle.std.specs.Prelude.{take, replicate, if◌then◌else◌}
use Rattle.std.proofs.lemmas.Bool.{cond_both, false≢true, and_parts}
use Rattle.std.proofs.lemmas.List.{length-replicate}
use Rattle.std.proofs.lemmas.List.Elements.{All-replicate}
use Rattle.fmp_codes.specs.Numbers.{as_object, as_task}
use Rattle.fmp_codes.specs.declared.numbers.Proc.{Proc}
use Rattle.fmp_codes.specs.declared.numbers.Object.{Object}
use Rattle.fmp_codes.specs.declared.calls.Call.{Call}
use Rattle.fmp_codes.specs.declared.calls.Call.TheVariants as call
use Rattle.fmp_codes.specs.declared.calls.TaskCall.TheVariants as tasks
use Rattle.fmp_codes.specs.declared.records.Answer.TheVariants as answer
use Rattle.fmp_codes.specs.declared.records.Event.{Event}
use Rattle.fmp_codes.specs.declared.records.Event.TheVariants as event
use Rattle.fmp_codes.specs.declared.records.Record.{Record}
use Rattle.fmp_codes.specs.declared.records.Runner.{Runner}
use Rattle.fmp_codes.specs.Records.{is_call}
use Rattle.fmp_setup.specs.declared.setup.TaskSetup.{TaskSetup}
use Rattle.fmp_setup.specs.Setup.{Setup}
use Rattle.fmp_setup.specs.Valid.{IsValid}
use Rattle.fmp_rules.specs.Effects.{Effect}
use Rattle.fmp_rules.specs.World.{item, processors_to, runner_of}
use Rattle.fmp_rules.specs.Objects.{holder}
use Rattle.fmp_rules.specs.Arrivals.{State, numbered}
use Rattle.fmp_rules.specs.Rows.{plain}
use Rattle.fmp_rules.specs.Tasks.{start}
use Rattle.fmp_rules.specs.Tick.{tick}
use Rattle.fmp_rules.specs.Step.{step, replay, answers}
use Rattle.fmp_rules.specs.Boot.{blank, all_started, with_top_running, with_tops_running, booted, unnumbered}
use Rattle.fmp_rules.proofs.Replays.{answers_take}
use Rattle.fmp_law_safety.specs.Runs.{AreOn}
use Rattle.fmp_law_safety.specs.Safe.{Safe}
use Rattle.fmp_law_safety.proofs.Items.{item_holds}
use Rattle.fmp_law_balance.proofs.Steps.{report}
use Rattle.fmp_law_balance.specs.Waits.Waits.{OpenWaits, nobody_waits, after_record}
use Rattle.fmp_law_balance.proofs.waits.Events.{by_event}
use Rattle.fmp_law_records.proofs.counts.Ready.{Ready, ready_next, ready_at_boot, prefix_on}
use Rattle.fmp_law_records.specs.Locks.{asks_for, gives_back, ends_there, holder_after, holder_by, IsHolderReported, LocksFit}
use Rattle.fmp_law_records.proofs.Leaving.{tick_still}
use Rattle.fmp_law_records.proofs.Locks.{unchanged_holder, held_call, call_fits}

-- the lock l is held as the record says, and there are as many as before
pub record HeldAs (l : Object) (w v : State) (r : Record) : Type 0 where
  pub here : holder v l ≡ holder_after l r (holder w l)
  pub count : length v.holders ≡ length w.holders

idle_ends_nobody : (p : Proc) (c : Call) → ends_there (event.Call p c) answer.Idle ≡ false
idle_ends_nobody p call.RetHdr = refl
idle_ends_nobody p (call.Task tasks.ExtTsk) = refl
idle_ends_nobody p (call.Task c) = refl
idle_ends_nobody p c = refl

pub held_step : (m : State) → Safe numbered m → (l : Object) → length m.holders ≤ 32 → (e : Event) → HeldAs l m (step numbered m e).0 (step numbered m e).1
held_step m s l few e =
    by_event numbered m (λ v r. HeldAs l m v r) (λ v cs r y ps h. record { here = h.here; count = h.count })
    (λ p c. let h = held_call numbered m s p l few c in record { here = h.here; count = h.count })
    (λ p c. record { here = sym (unchanged_holder l (report (event.Call p c) (runner_of m p) (plain answer.Idle)) (holder m l) refl (idle_ends_nobody p c)); count = refl })
    (λ p. record { here = ap (λ hs. item None hs l.number) (tick_still numbered m p).1; count = ap length (tick_still numbered m p).1 })
    (λ p. record { here = refl; count = refl }) (λ p. record { here = refl; count = refl }) (λ p a h. record { here = refl; count = refl }) e

-- At boot nobody holds one.

running_holders : (w : State) (ps : List Proc) → (with_tops_running numbered w ps).holders ≡ w.holders
running_holders w [] = refl
running_holders w (p ∷ ps) = running_holders (with_top_running numbered w p) ps

started_holders : (w : State) (n : ℕ) (ss : List TaskSetup) → (all_started numbered w n ss).holders ≡ w.holders
started_holders w n [] = refl
started_holders w n (s ∷ ss) =
    started_holders (if s.starts then start numbered w (as_task n) s.class.initial else w) (n + 1) ss
    ∙ cond_both s.starts (start numbered w (as_task n) s.class.initial) w (λ (v : State). v.holders ≡ w.holders) (λ _. refl) (λ _. refl)

booted_holders : (c : Setup) → (booted c).holders ≡ replicate c.spin_locks None
booted_holders c = running_holders (all_started numbered (blank (unnumbered c) c) 1 c.tasks) (processors_to c.processors) ∙ started_holders (blank (unnumbered c) c) 1 c.tasks

booted_free : (c : Setup) (l : Object) → holder (booted c) l ≡ None
booted_free c l =
    ap (λ hs. item None hs l.number) (booted_holders c)
    ∙ item_holds (λ (h : Option Proc). h ≡ None) None (replicate c.spin_locks None) l.number refl (All-replicate (λ (h : Option Proc). h ≡ None) c.spin_locks None refl)

module _ (c : Setup) (l : Object) where
  held_run : (pending : OpenWaits) (m : State) (es : List Event) (h : Option Proc) → Ready c pending m es → length m.holders ≤ 32 → holder m l ≡ h → holder (replay numbered m es) l ≡ holder_by l (answers numbered m es) h
  held_run pending m [] h ready few old = old
  held_run pending m (e ∷ es) h ready few old =
      let one = held_step m ready.safe l few e in
      held_run (after_record c pending (step numbered m e).1) (step numbered m e).0 es (holder_after l (step numbered m e).1 h) (ready_next c pending m e es ready) (rw one.count few)
      (one.here ∙ ap (holder_after l (step numbered m e).1) old)

  pub holders_reported : (events : List Event) → IsValid c → AreOn c.processors events → (n : ℕ) → IsHolderReported (take n (answers numbered (booted c) events)) (replay numbered (booted c) (take n events)) l
  holders_reported events valid on n =
      let es : List Event = take n events in
      subst (λ rs. IsHolderReported rs (replay numbered (booted c) es) l) (answers_take n (booted c) events)
      (held_run nobody_waits (booted c) es None (ready_at_boot c valid es (prefix_on n c.processors events on)) (rw (ap length (booted_holders c) ∙ length-replicate c.spin_locks None) valid.few.spin_locks) (booted_free c l))

-- Each record fits who holds the lock.

idle_fits : (l : Object) (h : Option Proc) (e : Event) (r : Option Runner) → LocksFit l h (report e r (plain answer.Idle))
idle_fits l h e r = record { taken = λ x. absurd (false≢true (and_parts (asks_for l e) false x).1); given_back = λ x. absurd (false≢true (and_parts (gives_back l e) false x).1) }

no_call_fits : (l : Object) (h : Option Proc) (e : Event) (r : Option Runner) (did : Effect) → is_call e ≡ false → LocksFit l h (report e r did)
no_call_fits l h (event.Call p c) r did no_call = absurd (false≢true (sym no_call))
no_call_fits l h e r did no_call = record { taken = λ x. absurd (false≢true x); given_back = λ x. absurd (false≢true x) }

fits_step : (m : State) (l : Object) → length m.holders ≤ 32 → (e : Event) → LocksFit l (holder m l) (step numbered m e).1
fits_step m l few e =
    by_event numbered m (λ v r. LocksFit l (holder m l) r) (λ v cs r y ps h. record { taken = h.taken; given_back = h.given_back })
    (λ p c. let h = call_fits m p l few numbered c in record { taken = h.taken; given_back = h.given_back }) (λ p c. idle_fits l (holder m l) (event.Call p c) (runner_of m p))
    (λ p. no_call_fits l (holder m l) (event.Tick p) (runner_of m p) (tick numbered m p).1 refl) (λ p. no_call_fits l (holder m l) (event.Tick p) (runner_of m p) (plain answer.Held) refl)
    (λ p. no_call_fits l (holder m l) (event.Tick p) (runner_of m p) (plain answer.Nothing) refl) (λ p a x. no_call_fits l (holder m l) (event.Ipi p) (runner_of m p) (plain a) refl) e

count_run : (c : Setup) (pending : OpenWaits) (m : State) (es : List Event) → Ready c pending m es → length m.holders ≤ 32 → length (replay numbered m es).holders ≤ 32
count_run c pending m [] ready few = few
count_run c pending m (e ∷ es) ready few =
    count_run c (after_record c pending (step numbered m e).1) (step numbered m e).0 es (ready_next c pending m e es ready) (rw (held_step m ready.safe (as_object 1) few e).count few)

pub locks_fit : (c : Setup) (events : List Event) → IsValid c → AreOn c.processors events → (e : Event) (l : Object) →
    LocksFit l (holder_by l (answers numbered (booted c) events) None) (step numbered (replay numbered (booted c) events) e).1
locks_fit c events valid on e l =
    let m : State = replay numbered (booted c) events in
    let ready = ready_at_boot c valid events on in
    let few : length (booted c).holders ≤ 32 = rw (ap length (booted_holders c) ∙ length-replicate c.spin_locks None) valid.few.spin_locks in
    subst (λ h. LocksFit l h (step numbered m e).1) (held_run c l nobody_waits (booted c) events None ready few (booted_free c l)) (fits_step m l (count_run c nobody_waits (booted c) events ready few) e)
