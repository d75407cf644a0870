-- Where an cyclic is assigned, and what is left of its time, along a run.
use Rattle.std.proofs.Common.{◌≡◌, ℕ, ◌+◌, ◌-◌, ◌≤◌, ◌&&◌, List, [], ◌∷◌, length, map, refl, sym, ap, ◌∙◌, subst, Option, None, Some}
use Rattle.std.specs.Prelude.{if◌then◌else◌, take}
use Rattle.std.proofs.Math.ListN.{get_or-map}
use Rattle.std.proofs.lemmas.List.{length-map}
use Rattle.fmp_codes.specs.Numbers.{as_proc}
use Rattle.fmp_codes.specs.declared.numbers.Object.{Object}
use Rattle.fmp_codes.specs.declared.numbers.Proc.{Proc}
use Rattle.fmp_codes.specs.declared.records.Event.{Event}
use Rattle.fmp_codes.specs.declared.records.Record.{Record}
use Rattle.fmp_setup.specs.declared.setup.CyclicSetup.{CyclicSetup}
use Rattle.fmp_setup.specs.declared.setup.Timer.{Timer}
use Rattle.fmp_setup.specs.Setup.{Setup, no_cyclic}
use Rattle.fmp_setup.specs.Valid.{IsValid}
use Rattle.fmp_rules.specs.declared.machine.Cyclic.{Cyclic}
use Rattle.fmp_rules.specs.World.{item, processors_to}
use Rattle.fmp_rules.specs.Objects.{cyclic}
use Rattle.fmp_rules.specs.Arrivals.{State, numbered}
use Rattle.fmp_rules.specs.Step.{step, replay, answers}
use Rattle.fmp_rules.specs.Boot.{phase_left, blank, all_started, booted, unnumbered}
use Rattle.fmp_rules.proofs.Replays.{answers_take}
use Rattle.fmp_law_safety.specs.Runs.{AreOn}
use Rattle.fmp_law_balance.specs.Waits.Waits.{OpenWaits, nobody_waits, after_record, is_tick_for}
use Rattle.fmp_law_balance.proofs.waits.Events.{by_event}
use Rattle.fmp_law_balance.specs.Accepted.{is_accepted}
use Rattle.fmp_law_records.specs.Counts.Alarms.{without_tick}
use Rattle.fmp_law_records.specs.Counts.Cyclics.{starts_cyclic, stops_cyclic, cyclic_left_after, cyclic_left_by}
use Rattle.fmp_law_records.proofs.counts.HandlersRuns.{cyclics_timed, clocks_step, clock_started, clock_running}
use Rattle.fmp_law_records.proofs.counts.Sparing.{Clock}
use Rattle.fmp_law_records.proofs.counts.Ready.{Ready, ready_next, ready_at_boot, prefix_on}
use Rattle.fmp_law_records.specs.Handlers.{HandlerReported, takes_cyclic, cyclic_after, cyclic_by, cyclic_reported_at_boot, IsCyclicReported}
use Rattle.fmp_law_records.proofs.Alarms.{at_with, untaken}
use Rattle.fmp_law_records.proofs.Cyclics.{tick_cyclics, cyclic_call}
use Rattle.fmp_rules.specs.Tick.{tick}

abbrev blank_cyclic : Cyclic
blank_cyclic = record { setup = no_cyclic; assigned = as_proc 1 }

-- it is where the record says, and there are as many
pub record CyclicAs (a : Object) (w v : State) (r : Record) : Type 0 where
  pub here : cyclic v a ≡ record (cyclic w a) { assigned = at_with (cyclic w a).setup.class r.answer (takes_cyclic a r.event) (cyclic w a).assigned }

cyclic_step : (m : State) (a : Object) → length m.cyclics ≤ 32 → (e : Event) → CyclicAs a m (step numbered m e).0 (step numbered m e).1
cyclic_step m a few e =
    by_event numbered m (λ v r. CyclicAs a m v r) (λ v cs r y ps h. record { here = h.here }) (λ p c. record { here = (cyclic_call numbered m p a few c).here })
    (λ p c. record { here = refl }) (λ p. record { here = ap (λ xs. item blank_cyclic xs a.number) (tick_cyclics numbered m p) ∙ ap (λ q. record (cyclic m a) { assigned = q }) (sym (untaken (cyclic m a).setup.class (tick numbered m p).1.answer (cyclic m a).assigned)) }) (λ p. record { here = refl }) (λ p. record { here = refl })
    (λ p x no_answer. record { here = ap (λ q. record (cyclic m a) { assigned = q }) (sym (untaken (cyclic m a).setup.class x (cyclic m a).assigned)) }) e

abbrev setup_cyclic : Setup → Object → CyclicSetup
setup_cyclic c a = item no_cyclic c.cyclics a.number

-- what is left of it after a record, where it is this one
abbrev left_with : Timer → Cyclic → Object → Record → Option ℕ → Option ℕ
left_with t y a r left =
    if starts_cyclic a r.event && is_accepted r.answer then Some (y.setup.phase + 1)
    else if stops_cyclic a r.event && is_accepted r.answer then None
    else if is_tick_for t y.assigned r.answer r.event then without_tick (Some y.setup.period) left
    else left

same_left : (c : Setup) (m : State) (a : Object) (r : Record) (x : HandlerReported) → m.timer ≡ c.timer → cyclic m a ≡ record { setup = setup_cyclic c a; assigned = x.at } → cyclic_left_after m a r x.left ≡ (cyclic_after c a r x).left
same_left c m a r x timer is =
    ap (λ (y : Cyclic). left_with m.timer y a r x.left) is ∙ ap (λ (t : Timer). left_with t (record { setup = setup_cyclic c a; assigned = x.at }) a r x.left) timer

module _ (c : Setup) (valid : IsValid c) (a : Object) where
  abbrev With : Proc → Cyclic
  With q = record { setup = setup_cyclic c a; assigned = q }

  cyclic_run : (pending : OpenWaits) (m : State) (es : List Event) (x : HandlerReported) → Ready c pending m es → length m.cyclics ≤ 32 → cyclic m a ≡ With x.at → cyclic (replay numbered m es) a ≡ With (cyclic_by c a (answers numbered m es) x).at
  cyclic_run pending m [] x ready few old = old
  cyclic_run pending m (e ∷ es) x ready few old =
      cyclic_run (after_record c pending (step numbered m e).1) (step numbered m e).0 es (cyclic_after c a (step numbered m e).1 x) (ready_next c pending m e es ready) (rw (clocks_step numbered m e).cyclics few)
      ((cyclic_step m a few e).here ∙ ap (λ (y : Cyclic). record y { assigned = at_with y.setup.class (step numbered m e).1.answer (takes_cyclic a (step numbered m e).1.event) y.assigned }) old)

  left_run : (pending : OpenWaits) (m : State) (es : List Event) (x : HandlerReported) → Ready c pending m es → length m.cyclics ≤ 32 → cyclic m a ≡ With x.at → cyclic_left_by a m es x.left ≡ (cyclic_by c a (answers numbered m es) x).left
  left_run pending m [] x ready few old = refl
  left_run pending m (e ∷ es) x ready few old =
      let r : Record = (step numbered m e).1 in
      ap (λ (o : Option ℕ). cyclic_left_by a (step numbered m e).0 es o) (same_left c m a r x ready.sound.timer old)
      ∙ left_run (after_record c pending r) (step numbered m e).0 es (cyclic_after c a r x) (ready_next c pending m e es ready) (rw (clocks_step numbered m e).cyclics few)
      ((cyclic_step m a few e).here ∙ ap (λ (y : Cyclic). record y { assigned = at_with y.setup.class (step numbered m e).1.answer (takes_cyclic a (step numbered m e).1.event) y.assigned }) old)

abbrev resting_cyclic : CyclicSetup → Cyclic
resting_cyclic s = record { setup = s; assigned = s.class.initial }

booted_cyclics : (c : Setup) → (booted c).cyclics ≡ map resting_cyclic c.cyclics
booted_cyclics c =
    ap (λ (x : Clock). x.cyclics) (clock_running (all_started numbered (blank (unnumbered c) c) 1 c.tasks) (processors_to c.processors) ∙ clock_started (blank (unnumbered c) c) 1 c.tasks)

booted_at : (c : Setup) (a : Object) → cyclic (booted c) a ≡ resting_cyclic (setup_cyclic c a)
booted_at c a = ap (λ xs. item blank_cyclic xs a.number) (booted_cyclics c) ∙ get_or-map resting_cyclic c.cyclics (a.number - 1) no_cyclic

pub cyclics_reported : (c : Setup) (events : List Event) → IsValid c → AreOn c.processors events → (n : ℕ) (a : Object) → a.number ≤ length c.cyclics →
    IsCyclicReported c (take n (answers numbered (booted c) events)) (replay numbered (booted c) (take n events)) a
cyclics_reported c events valid on n a here =
    let es : List Event = take n events in
    let ready = ready_at_boot c valid es (prefix_on n c.processors events on) in
    let few : length (booted c).cyclics ≤ 32 = rw (ap length (booted_cyclics c) ∙ length-map c.cyclics resting_cyclic) valid.few.cyclics in
    subst (λ rs. IsCyclicReported c rs (replay numbered (booted c) es) a) (answers_take n (booted c) events)
    (record {
      left = cyclics_timed c es valid (prefix_on n c.processors events on) a here ∙ ap (λ (o : Option ℕ). cyclic_left_by a (booted c) es o) (get_or-map phase_left c.cyclics (a.number - 1) no_cyclic)
          ∙ left_run c valid a nobody_waits (booted c) es (cyclic_reported_at_boot c a) ready few (booted_at c a);
      at = ap (λ (y : Cyclic). y.assigned) (cyclic_run c valid a nobody_waits (booted c) es (cyclic_reported_at_boot c a) ready few (booted_at c a));
    })
