-- The pattern of an eventflag along a run.
use Rattle.std.proofs.Common.{◌≡◌, ℕ, ◌+◌, ◌-◌, ◌≤◌, Bool, false, List, [], ◌∷◌, length, refl, sym, ap, ◌∙◌, subst, Option, Some, None}
use Rattle.std.specs.Prelude.{if◌then◌else◌, take, IfSome}
use Rattle.std.proofs.lemmas.Bool.{cond_both, false≢true}
use Rattle.std.proofs.Math.ListN.{get_or-map}
use Rattle.fmp_codes.specs.Numbers.{as_task}
use Rattle.fmp_codes.specs.declared.numbers.Proc.{Proc}
use Rattle.fmp_codes.specs.declared.numbers.Object.{Object}
use Rattle.fmp_codes.specs.declared.records.Answer.TheVariants as answer
use Rattle.fmp_codes.specs.declared.records.Event.{Event}
use Rattle.fmp_codes.specs.declared.records.Event.TheVariants as event
use Rattle.fmp_codes.specs.declared.records.Record.{Record}
use Rattle.fmp_codes.specs.declared.records.Runner.{Runner}
use Rattle.fmp_codes.specs.Records.{is_call}
use Rattle.fmp_rules.specs.Effects.{Effect}
use Rattle.fmp_setup.specs.declared.setup.TaskSetup.{TaskSetup}
use Rattle.fmp_setup.specs.declared.setup.EventflagSetup.{EventflagSetup}
use Rattle.fmp_setup.specs.Setup.{Setup, no_eventflag}
use Rattle.fmp_setup.specs.Valid.{IsValid}
use Rattle.fmp_rules.specs.declared.machine.Eventflag.{Eventflag}
use Rattle.fmp_rules.specs.World.{item, runner_of, processors_to}
use Rattle.fmp_rules.specs.Objects.{eventflag, blank_eventflag}
use Rattle.fmp_rules.specs.Arrivals.{State, numbered}
use Rattle.fmp_rules.specs.Rows.{plain}
use Rattle.fmp_rules.specs.Tasks.{start}
use Rattle.fmp_rules.specs.Step.{step, replay, answers}
use Rattle.fmp_rules.specs.Boot.{blank, all_started, with_top_running, with_tops_running, booted, unnumbered}
use Rattle.fmp_rules.proofs.Replays.{answers_take}
use Rattle.fmp_law_safety.specs.Runs.{AreOn}
use Rattle.fmp_law_balance.proofs.Steps.{report}
use Rattle.fmp_law_balance.specs.Waits.Waits.{OpenWaits, nobody_waits, after_record}
use Rattle.fmp_law_balance.proofs.waits.Events.{by_event}
use Rattle.fmp_law_records.proofs.counts.Ready.{Ready, ready_next, ready_at_boot, ready_after, prefix_on}
use Rattle.fmp_law_records.specs.Patterns.{asks_bits, sets_bits, pattern_after, pattern_by, report_pattern, IsPatternReported, PatternFits}
use Rattle.fmp_law_records.proofs.Leaving.{tick_calm}
use Rattle.fmp_law_records.proofs.Patterns.{unchanged_pattern, pattern_call, pattern_fits}

abbrev pub now_of : State → Object → Record → Eventflag
now_of m f r = record (eventflag m f) { pattern = pattern_after (eventflag m f).setup.clears f r (eventflag m f).pattern }

pattern_step : (m : State) (f : Object) → length m.eventflags ≤ 32 → (e : Event) → eventflag (step numbered m e).0 f ≡ now_of m f (step numbered m e).1
pattern_step m f few e =
    by_event numbered m (λ v r. eventflag v f ≡ now_of m f r) (λ v cs r y ps h. h) (λ p c. (pattern_call numbered m p f few c).here)
    (λ p c. ap (λ y. record (eventflag m f) { pattern = y }) (sym (unchanged_pattern (eventflag m f).setup.clears f (report (event.Call p c) (runner_of m p) (plain answer.Idle)) (eventflag m f).pattern refl)))
    (λ p. ap (λ xs. item blank_eventflag xs f.number) (tick_calm numbered m p)) (λ p. refl) (λ p. refl) (λ p a h. refl) e

if_all : {X : Type 0} (o : Option X) (P : X → Type 0) → ((x : X) → P x) → IfSome o P
if_all None P h = tt
if_all (Some x) P h = h x

idle_fits : (clears : Bool) (f : Object) (x : ℕ) (e : Event) (r : Option Runner) → PatternFits clears f x (report e r (plain answer.Idle))
idle_fits clears f x e r = record { got = if_all (asks_bits f e) _ (λ b h. absurd (false≢true h)); handed = if_all (sets_bits f e) _ (λ b h. absurd (false≢true h)) }

no_call_fits : (clears : Bool) (f : Object) (x : ℕ) (e : Event) (r : Option Runner) (did : Effect) → is_call e ≡ false → PatternFits clears f x (report e r did)
no_call_fits clears f x (event.Call p c) r did no_call = absurd (false≢true (sym no_call))
no_call_fits clears f x e r did no_call = record { got = tt; handed = tt }

fits_step : (m : State) (f : Object) → length m.eventflags ≤ 32 → (e : Event) → PatternFits (eventflag m f).setup.clears f (eventflag m f).pattern (step numbered m e).1
fits_step m f few e =
    by_event numbered m (λ v r. PatternFits (eventflag m f).setup.clears f (eventflag m f).pattern r) (λ v cs r y ps h. record { got = h.got; handed = h.handed })
    (λ p c. pattern_fits numbered m p f few c) (λ p c. idle_fits _ f _ (event.Call p c) (runner_of m p)) (λ p. no_call_fits _ f _ (event.Tick p) (runner_of m p) _ refl) (λ p. no_call_fits _ f _ (event.Tick p) (runner_of m p) _ refl)
    (λ p. no_call_fits _ f _ (event.Tick p) (runner_of m p) _ refl) (λ p a h. no_call_fits _ f _ (event.Ipi p) (runner_of m p) _ refl) e

running_flags : (w : State) (ps : List Proc) → (with_tops_running numbered w ps).eventflags ≡ w.eventflags
running_flags w [] = refl
running_flags w (p ∷ ps) = running_flags (with_top_running numbered w p) ps

started_flags : (w : State) (n : ℕ) (ss : List TaskSetup) → (all_started numbered w n ss).eventflags ≡ w.eventflags
started_flags w n [] = refl
started_flags w n (s ∷ ss) =
    started_flags (if s.starts then start numbered w (as_task n) s.class.initial else w) (n + 1) ss
    ∙ cond_both s.starts (start numbered w (as_task n) s.class.initial) w (λ (v : State). v.eventflags ≡ w.eventflags) (λ _. refl) (λ _. refl)

abbrev setup_flag : Setup → Object → EventflagSetup
setup_flag c f = item no_eventflag c.eventflags f.number

abbrev fresh : EventflagSetup → Eventflag
fresh s = record { setup = s; pattern = s.initial }

booted_flag : (c : Setup) (f : Object) → eventflag (booted c) f ≡ fresh (setup_flag c f)
booted_flag c f =
    ap (λ xs. item blank_eventflag xs f.number) (running_flags (all_started numbered (blank (unnumbered c) c) 1 c.tasks) (processors_to c.processors) ∙ started_flags (blank (unnumbered c) c) 1 c.tasks)
    ∙ get_or-map fresh c.eventflags (f.number - 1) no_eventflag

module _ (c : Setup) (f : Object) where
  abbrev With : ℕ → Eventflag
  With x = record { setup = setup_flag c f; pattern = x }

  pattern_run : (pending : OpenWaits) (m : State) (es : List Event) (x : ℕ) → Ready c pending m es → eventflag m f ≡ With x → eventflag (replay numbered m es) f ≡ With (pattern_by (setup_flag c f).clears f (answers numbered m es) x)
  pattern_run pending m [] x ready old = old
  pattern_run pending m (e ∷ es) x ready old =
      pattern_run (after_record c pending (step numbered m e).1) (step numbered m e).0 es (pattern_after (setup_flag c f).clears f (step numbered m e).1 x) (ready_next c pending m e es ready)
      (pattern_step m f ready.sound.few_eventflags e ∙ ap (λ (y : Eventflag). record y { pattern = pattern_after y.setup.clears f (step numbered m e).1 y.pattern }) old)

  pub patterns_reported : (events : List Event) → IsValid c → AreOn c.processors events → (n : ℕ) → IsPatternReported c (take n (answers numbered (booted c) events)) (replay numbered (booted c) (take n events)) f
  patterns_reported events valid on n =
      let es : List Event = take n events in
      subst (λ rs. IsPatternReported c rs (replay numbered (booted c) es) f) (answers_take n (booted c) events)
      (ap (λ (y : Eventflag). y.pattern) (pattern_run nobody_waits (booted c) es (setup_flag c f).initial (ready_at_boot c valid es (prefix_on n c.processors events on)) (booted_flag c f)))

pub patterns_fit : (c : Setup) (events : List Event) → IsValid c → AreOn c.processors events → (e : Event) (f : Object) →
    PatternFits (setup_flag c f).clears f (report_pattern c f (answers numbered (booted c) events)) (step numbered (replay numbered (booted c) events) e).1
patterns_fit c events valid on e f =
    let m : State = replay numbered (booted c) events in
    let now = pattern_run c f nobody_waits (booted c) events (setup_flag c f).initial (ready_at_boot c valid events on) (booted_flag c f) in
    subst (λ (y : Eventflag). PatternFits y.setup.clears f y.pattern (step numbered m e).1) now (fits_step m f (ready_after c valid events on).sound.few_eventflags e)
