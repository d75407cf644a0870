-- What a history keeps, with one event more.
use Rattle.std.proofs.Common.{◌≡◌, ℕ, zero, suc, ◌<◌, ◌≤◌, ◌∙◌, List, [], ◌∷◌, ◌++◌, length, take, Option, Some, None, slice_get, cond, Bool, true, false, ◌⊎◌, inl, inr, refl, ap, arith, replicate}
use Rattle.std.proofs.lemmas.List.Elements.{All-nil}
use Rattle.fmp_codes.specs.Records.{processor_of}
use Rattle.fmp_codes.specs.declared.numbers.Proc.{Proc}
use Rattle.fmp_codes.specs.declared.records.Event.{Event}
use Rattle.fmp_codes.specs.declared.records.Event.TheVariants as event
use Rattle.fmp_codes.specs.declared.records.Record.{Record}
use Rattle.fmp_codes.specs.declared.records.Runner.{Runner}
use Rattle.fmp_codes.proofs.Counters.{zeros}
use Rattle.fmp_text_scripts.specs.Scripts.{Steps}
use Rattle.fmp_setup.specs.Setup.{Setup}
use Rattle.fmp_setup.specs.Valid.{IsValid}
use Rattle.fmp_rules.specs.Arrivals.{State, numbered}
use Rattle.fmp_rules.specs.Step.{step}
use Rattle.fmp_rules.specs.Boot.{booted}
use Rattle.fmp_rules.specs.World.{World}
use Rattle.fmp_rules.proofs.Replays.{step_event}
use Rattle.fmp_kernel_order.specs.Queues.{Queues}
use Rattle.fmp_law_lists.specs.Stands.{Stands}
use Rattle.fmp_smp_histories.specs.Histories.{state_after}
use Rattle.fmp_smp_histories.specs.Positions.{task_position, handler_position}
use Rattle.fmp_smp_histories.specs.Places.{moved_tasks, moved_handlers}
use Rattle.fmp_smp_histories.specs.Scripted.{choice, next_call, asked_at, position_of, Scripted, IsScripted}
use Rattle.fmp_world.specs.Kept.{KeepsHistory}
use Rattle.fmp_smp_histories.proofs.Histories.{after_more, run_more}
use Rattle.fmp_smp_histories.proofs.Advancing.{tasks_moved, handlers_moved}

-- the empty history
pub opening_keeps : (c : Setup) (scripts : List Steps) (k : World Queues) → IsValid c → Stands k (booted c) → KeepsHistory c scripts k (replicate 64 0) (replicate 8 0) []
unfolding state_after task_position handler_position
opening_keeps c scripts k valid stands = record {
  valid = valid;
  run = record { answers = refl; on = All-nil (λ (e : Event). (processor_of e).number ≤ c.processors) };
  stands = stands;
  tasks_placed = λ i small. zeros 64 i;
  handlers_placed = λ i small. zeros 8 i;
  scripted = λ n r at. cc;
}

-- what stands in a list that is one longer stands in the list, or it is the new one
below_or_at : (n : ℕ) (h : List Record) (r x : Record) → slice_get (h ++ r ∷ []) n ≡ Some x
    → ((n < length h) × (take n (h ++ r ∷ []) ≡ take n h) × (slice_get h n ≡ Some x)) ⊎ ((take n (h ++ r ∷ []) ≡ h) × (x ≡ r))
below_or_at zero [] r x at = inr (refl, cc)
below_or_at (suc n) [] r x at = cc
below_or_at zero (y ∷ h) r x at = inl (omega arith, refl, at)
below_or_at (suc n) (y ∷ h) r x at = elim (below_or_at n h r x at) [
  | inl p ↦ inl (omega (arith, p.0), ap (λ l. y ∷ l) p.1, p.2)
  | inr p ↦ inr (ap (λ l. y ∷ l) p.0, p.1)
]

-- a history one longer is scripted where its last event is
scripted_more : (c : Setup) (scripts : List Steps) (h : List Record) (r : Record) → Scripted c scripts h → IsScripted c scripts h r.event → Scripted c scripts (h ++ r ∷ [])
scripted_more c scripts h r all last = λ n x at.
    elim (below_or_at n h r x at) [
      | inl here ↦ rw here.1 (all n x here.2)
      | inr end ↦ rw (end.0, end.1) last
    ]

-- a world's parts, with one event more
pub keeps_more : (c : Setup) (scripts : List Steps) (k k' : World Queues) (ts hs : List ℕ) (h : List Record) (e : Event) (r : Record) → KeepsHistory c scripts k ts hs h
    → ((m : State) → Stands k m → Stands k' (step numbered m e).0) → ((m : State) → Stands k m → r ≡ (step numbered m e).1)
    → (processor_of e).number ≤ c.processors → length ts ≡ 64 → length hs ≡ 8 → IsScripted c scripts h e
    → KeepsHistory c scripts k' (moved_tasks c scripts ts r) (moved_handlers c scripts hs r) (h ++ r ∷ [])
keeps_more c scripts k k' ts hs h e r keeps stands report here ts_long hs_long scripted =
    let is : r ≡ (step numbered (state_after c h) e).1 = report (state_after c h) keeps.stands in
    let event : r.event ≡ e = ap (λ (x : Record). x.event) is ∙ step_event (state_after c h) e in
    record {
      valid = keeps.valid;
      run = run_more c h e r keeps.run is event here;
      stands = rw (after_more c h e r event) (stands (state_after c h) keeps.stands);
      tasks_placed = tasks_moved c scripts ts h r keeps.tasks_placed ts_long;
      handlers_placed = handlers_moved c scripts hs h r keeps.handlers_placed hs_long;
      scripted = scripted_more c scripts h r keeps.scripted (rw event scripted);
    }

-- ---- what a processor picks is of it, and scripted

next_on : (c : Setup) (scripts : List Steps) (h : List Record) (p : Proc) (o : Option Runner) (e : Event) → next_call c scripts h p o ≡ Some e → processor_of e ≡ p
next_on c scripts h p None e picked = cc
next_on c scripts h p (Some r) e picked =
    let is : e ≡ event.Call p (asked_at c scripts r (position_of c scripts r p h)) = cc in
    rw is refl

pick_on : (p : Proc) (b : Bool) (o : Option Event) (e : Event) → (o ≡ Some e → processor_of e ≡ p) → cond b (Some (event.Ipi p)) o ≡ Some e → processor_of e ≡ p
pick_on p true o e other picked = let is : e ≡ event.Ipi p = cc in rw is refl
pick_on p false o e other picked = other picked

pub choice_on : (c : Setup) (scripts : List Steps) (h : List Record) (p : Proc) (e : Event) → choice c scripts h p ≡ Some e → processor_of e ≡ p
choice_on c scripts h p e picked = pick_on p _ _ e (next_on c scripts h p _ e) picked

pub choice_scripted : (c : Setup) (scripts : List Steps) (h : List Record) (p : Proc) (e : Event) → choice c scripts h p ≡ Some e → IsScripted c scripts h e
choice_scripted c scripts h p e picked = inr (rw (choice_on c scripts h p e picked) picked)
