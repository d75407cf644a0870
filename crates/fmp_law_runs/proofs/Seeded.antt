-- Two runs by one seed are the same.
use Rattle.std.proofs.Common.{◌≡◌, ◌∙◌, ℕ, get_or, zero, suc, ◌+◌, ◌-◌, ◌*◌, ◌%◌, ◌<◌, ◌≤◌, ◌⊎◌, inl, inr, Bool, true, false, not, ◌&&◌, cond, List, [], ◌∷◌, ◌++◌, length, take, Option, Some, None, refl, ap, sym, subst, arith}
use Rattle.std.specs.Prelude.{slice_get, is_none, is_some, nat_le}
use Rattle.std.specs.Option.{option_map}
use Rattle.std.proofs.Math.Nat.{suc-mul}
use Rattle.std.proofs.lemmas.Bool.{cases_eq, cases_lt, eq-eqb}
use Rattle.std.proofs.lemmas.Bool.Decides.{leb_tells}
use Rattle.std.proofs.lemmas.List.{length-map, take_all, take_more_same}
use Rattle.std.proofs.lemmas.Option.{get_or_from_slice_get, slice_get_cases, slice_get-map}
use Rattle.fmp_codes.specs.Numbers.{as_proc}
use Rattle.fmp_codes.specs.declared.numbers.Proc.{Proc}
use Rattle.fmp_codes.specs.declared.records.Event.{Event}
use Rattle.fmp_codes.specs.declared.records.Event.TheVariants as event
use Rattle.fmp_codes.specs.declared.records.Record.{Record}
use Rattle.fmp_codes.specs.declared.records.Runner.{Runner}
use Rattle.fmp_setup.specs.declared.setup.Timer.{Timer}
use Rattle.fmp_setup.specs.declared.setup.Timer.TheVariants as timer
use Rattle.fmp_setup.specs.Setup.{Setup, has_time}
use Rattle.fmp_setup.specs.Valid.{IsValid, IsTimerOf}
use Rattle.fmp_rules.specs.Arrivals.{numbered}
use Rattle.fmp_rules.specs.Boot.{booted}
use Rattle.fmp_rules.specs.Step.{answers}
use Rattle.fmp_rules.specs.World.{processor, runner_of, is_held}
use Rattle.fmp_rules.proofs.Replays.{answers_take}
use Rattle.fmp_text_scripts.specs.Scripts.{Steps}
use Rattle.fmp_smp_histories.specs.Counted.{taken}
use Rattle.fmp_smp_histories.specs.Histories.{events_of, state_after, is_idle, IsQuiet, IsRunOf}
use Rattle.fmp_smp_histories.specs.Scripted.{choice, next_call}
use Rattle.fmp_world.specs.declared.finishing.Ended.{Ended}
use Rattle.fmp_world.specs.declared.finishing.Ended.TheVariants as ends
use Rattle.fmp_world.specs.Ends.{EndsQuiet, TicksAre}
use Rattle.fmp_smp.specs.Rounds.{Rounds, TicksInTurn, first_ticked, is_over, rounds_of, ticked, ticks_taken}
use Rattle.fmp_smp.specs.Seeds.{IsInOrderOf, cpu_of, cpus_of, drawn, event_drawn, event_of, movers, number_at}
use Rattle.fmp_smp.proofs.Shares.{number_of, share, share_all, share_grows, share_hit}
use Rattle.fmp_smp.proofs.Turning.{ordered_in_turn}
use Rattle.fmp_smp.proofs.Wholes.{AreRounds, are_rounds}
use Rattle.fmp_law_runs.specs.Runs.{AreOne, IsSeeded}
use Rattle.fmp_law_runs.proofs.Counted.{counted}

-- ---- at a quiet end nobody has anything to do

idle_rests : (latch held : Bool) (c : Setup) (scripts : List Steps) (h : List Record) (p : Proc) (o : Option Runner) → (is_none o && not latch) ≡ true
    → cond (latch && not held) (Some (event.Ipi p)) (next_call c scripts h p o) ≡ None
idle_rests true held c scripts h p None is = cc
idle_rests true held c scripts h p (Some r) is = cc
idle_rests false held c scripts h p None is = refl
idle_rests false held c scripts h p (Some r) is = cc

no_choice : (c : Setup) (scripts : List Steps) (h : List Record) (p : Proc) → is_idle (state_after c h) p ≡ true → choice c scripts h p ≡ None
no_choice c scripts h p is =
    let m = state_after c h in
    idle_rests (processor m p).latch (is_held m p) c scripts h p (runner_of m p) is

no_cpus : (c : Setup) (scripts : List Steps) (h : List Record) (n : ℕ) → IsQuiet n (state_after c h) → cpus_of c scripts h n ≡ []
unfolding cpus_of
no_cpus c scripts h zero quiet = refl
no_cpus c scripts h (suc n) quiet =
    let none : choice c scripts h (as_proc (suc n)) ≡ None =
    let next : n + 1 ≡ suc n = omega arith in
    subst (λ (k : ℕ). choice c scripts h (as_proc k) ≡ None) next (no_choice c scripts h (as_proc (n + 1)) (quiet n (omega arith))) in
    rw (no_cpus c scripts h n (λ i small. quiet i (omega (arith, small))), none) refl

-- the last processor of a round
last_of : (t : Timer) (n : ℕ) → 1 ≤ n → n ≤ 8 → IsTimerOf n t
    → (i : ℕ) × (i < n) × (i + 1 ≡ first_ticked t + (ticked t n - 1)) × (has_time t (as_proc (i + 1)) ≡ true)
last_of timer.Local n least most of = (n - 1, omega (arith, least), omega (arith, least), refl)
last_of (timer.Global master) n least most of =
    let low = master.least in
    let number : (as_proc (master.number - 1 + 1)).number ≡ master.number = omega (arith, low, of, most) in
    (master.number - 1, omega (arith, low, of), omega (arith, low), eq-eqb (as_proc (master.number - 1 + 1)).number master.number number)

-- where it has taken a tick in each round, the rounds are over
module _ (first count : ℕ) (fits : (1 ≤ first) × (first + count ≤ 9) × (1 ≤ count)) where
  all_over : (ticks g : ℕ) → share first count (first + (count - 1)) g ≡ ticks → ticks * count ≤ g
  all_over zero g has = omega arith
  all_over (suc k) g has =
      let last = first + (count - 1) in
      let end : suc (k * count + (count - 1)) ≡ suc k * count = let one = suc-mul k count in omega (arith, one, fits.2) in
      let hit = share_hit first count last (k * count + (count - 1)) (number_of first count fits.0 fits.1 fits.2 k (count - 1) (omega (arith, fits.2))) in
      let all : share first count last (suc (k * count + (count - 1))) ≡ suc k =
      ap (share first count last) end ∙ share_all first count fits.0 fits.1 fits.2 last (suc k) (omega arith) (omega (arith, fits.2)) in
      elim (cases_lt g (suc k * count)) [
        | inl less ↦
            let d = k * count + (count - 1) - g in
            let rest : g + d ≡ k * count + (count - 1) = omega (arith, less, end) in
            let grows : share first count last g ≤ share first count last (k * count + (count - 1)) =
            subst (λ (x : ℕ). share first count last g ≤ share first count last x) rest (share_grows first count fits.0 fits.1 fits.2 last g d) in
            absurd (omega (arith, grows, hit, all, has))
        | inr past ↦ past
      ]

nobody : (c : Setup) (scripts : List Steps) (ticks : ℕ) (h : List Record) → IsValid c → TicksInTurn c ticks h → EndsQuiet c ticks h
    → movers c scripts h (rounds_of c ticks (ticks_taken h)) ≡ []
unfolding movers
nobody c scripts ticks h valid turned ends =
    let first = first_ticked c.timer in
    let count = ticked c.timer c.processors in
    let g = ticks_taken h in
    let fit : AreRounds c.timer c.processors = are_rounds c.timer c.processors valid.has_processors valid.few_processors in
    let last = last_of c.timer c.processors valid.has_processors valid.few_processors valid.timer in
    let whole : take (length h) h ≡ h = take_all (length h) h (omega arith) in
    let counts = subst (λ (front : List Record). (m : ℕ) → taken m front ≡ share first count m (ticks_taken front)) whole (counted c ticks h turned (length h) (omega arith)).2 in
    let has : share first count (first + (count - 1)) g ≡ ticks =
    subst (λ (m : ℕ). share first count m g ≡ ticks) last.2 (sym (counts (last.0 + 1)) ∙ ends.all_taken last.0 last.1 last.3) in
    let over : ticks * count ≤ g = all_over first count fit ticks g has in
    let is : is_over (rounds_of c ticks g) ≡ true = over_so (ticks * count) g over in
    rw (no_cpus c scripts h c.processors ends.quiet, is) refl
  where
    over_so : (a b : ℕ) → a ≤ b → nat_le a b ≡ true
    over_so a b le = elim (leb_tells a b) [
      | inl least ↦ least.0
      | inr past ↦ absurd (omega (arith, le, past.1))
    ]

-- so no number draws an event there
none_drawn : (c : Setup) (scripts : List Steps) (ticks : ℕ) (h : List Record) (number : ℕ) (e : Event) → IsValid c → TicksInTurn c ticks h → EndsQuiet c ticks h
    → event_drawn c scripts ticks h number ≡ Some e → ⊥
unfolding drawn
none_drawn c scripts ticks h number e valid turned ends is =
    let r = rounds_of c ticks (ticks_taken h) in
    let bad : None ≡ Some e =
    subst (λ list. event_of c scripts h r (drawn list number) ≡ Some e) (nobody c scripts ticks h valid turned ends) is in
    cc

-- ---- two runs

module _ (seed : ℕ) (c : Setup) (scripts : List Steps) (ticks turns : ℕ) (valid : IsValid c) where
  -- the first records of a run are the answers to its first events
  front : (h : List Record) (n : ℕ) → IsRunOf c h → take n h ≡ answers numbered (booted c) (take n (events_of h))
  front h n run = ap (take n) run.answers ∙ sym (answers_take n (booted c) (events_of h))

  event_at : (h : List Record) (n : ℕ) (r : Record) (d : Event) → slice_get h n ≡ Some r → get_or (events_of h) n d ≡ r.event
  event_at h n r d at =
      get_or_from_slice_get (events_of h) n r.event d (slice_get-map (λ (x : Record). x.event) h n ∙ ap (option_map (λ (x : Record). x.event)) at)

  module _ (h others : List Record) (run : IsRunOf c h) (other_run : IsRunOf c others) (ordered : IsInOrderOf seed c scripts ticks h) (others_ordered : IsInOrderOf seed c scripts ticks others) where
    fronts : (n : ℕ) → take n (events_of h) ≡ take n (events_of others) → take n h ≡ take n others
    fronts n same = front h n run ∙ ap (answers numbered (booted c)) same ∙ sym (front others n other_run)

    same_events : (n : ℕ) → n ≤ length h → n ≤ length others → take n (events_of h) ≡ take n (events_of others)
    same_events zero few few_others = refl
    same_events (suc n) few few_others = elim ((slice_get_cases h n).1) [
      | inl here ↦ elim ((slice_get_cases others n).1) [
        | inl there ↦
            let before = fronts n (same_events n (omega (arith, few)) (omega (arith, few_others))) in
            let drawn_here : event_drawn c scripts ticks (take n others) (number_at seed n) ≡ Some here.0.event =
            subst (λ (x : List Record). event_drawn c scripts ticks x (number_at seed n) ≡ Some here.0.event) before (ordered n here.0 here.2) in
            let both : Some here.0.event ≡ Some there.0.event = sym drawn_here ∙ others_ordered n there.0 there.2 in
            let same : here.0.event ≡ there.0.event = cc in
            let more : take (n + 1) (events_of h) ≡ take (n + 1) (events_of others) =
            take_more_same (events_of h) (events_of others) n here.0.event (omega (arith, here.1, length-map h (λ (x : Record). x.event)))
            (omega (arith, there.1, length-map others (λ (x : Record). x.event))) (same_events n (omega (arith, few)) (omega (arith, few_others)))
            (event_at h n here.0 here.0.event here.2 ∙ same ∙ sym (event_at others n there.0 here.0.event there.2)) in
            let next : n + 1 ≡ suc n = omega arith in
            subst (λ (k : ℕ). take k (events_of h) ≡ take k (events_of others)) next more
        | inr past ↦ absurd (omega (arith, past.0, few_others))
      ]
      | inr past ↦ absurd (omega (arith, past.0, few))
    ]

    same_front : (n : ℕ) → n ≤ length h → n ≤ length others → take n h ≡ take n others
    same_front n few few_others = fronts n (same_events n few few_others)

  -- a run does not go on where another one by the seed ended
  no_longer : (h others : List Record) (ended other : Ended) → IsSeeded seed c scripts ticks turns h ended → IsSeeded seed c scripts ticks turns others other → length h < length others → ⊥
  no_longer h others ends.Limit other one two less =
      let full = one.run.limit refl in
      let most = two.run.within in
      omega (arith, full, most, less)
  no_longer h others ends.Quiet other one two less = elim ((slice_get_cases others (length h)).1) [
    | inl there ↦
        let before = same_front h others one.run.run two.run.run one.order two.order (length h) (omega arith) (omega (arith, less)) in
        let whole : take (length h) others ≡ h = sym before ∙ take_all (length h) h (omega arith) in
        none_drawn c scripts ticks h (number_at seed (length h)) there.0.event valid (ordered_in_turn seed c scripts ticks h valid one.order) (one.run.quiet.0 refl)
        (subst (λ (x : List Record). event_drawn c scripts ticks x (number_at seed (length h)) ≡ Some there.0.event) whole (two.order (length h) there.0 there.2))
    | inr past ↦ omega (arith, past.0, less)
  ]

  same_end : (h : List Record) (ended other : Ended) → IsSeeded seed c scripts ticks turns h ended → IsSeeded seed c scripts ticks turns h other → ended ≡ other
  same_end h ends.Quiet other one two = sym (two.run.quiet.1 (one.run.quiet.0 refl))
  same_end h ends.Limit ends.Quiet one two = one.run.quiet.1 (two.run.quiet.0 refl)
  same_end h ends.Limit ends.Limit one two = refl

  pub are_one : (h others : List Record) (ended other : Ended) → IsSeeded seed c scripts ticks turns h ended → IsSeeded seed c scripts ticks turns others other → AreOne h others ended other
  are_one h others ended other one two = elim (cases_lt (length h) (length others)) [
    | inl less ↦ absurd (no_longer h others ended other one two less)
    | inr least ↦ elim (cases_lt (length others) (length h)) [
      | inl less ↦ absurd (no_longer others h other ended two one less)
      | inr most ↦
          let same : h ≡ others =
          sym (take_all (length h) h (omega arith)) ∙ same_front h others one.run.run two.run.run one.order two.order (length h) (omega arith) (omega (arith, least, most))
          ∙ take_all (length h) others (omega (arith, least, most)) in
          (same, same_end others ended other (subst (λ (x : List Record). IsSeeded seed c scripts ticks turns x ended) same one) two)
    ]
  ]
