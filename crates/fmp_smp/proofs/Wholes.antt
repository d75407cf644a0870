-- A seeded run that has come to its end is whole.
use Rattle.std.proofs.Common.{◌≡◌, ℕ, zero, suc, ◌+◌, ◌*◌, ◌<◌, ◌≤◌, ◌⊎◌, inl, inr, Bool, true, false, not, ◌&&◌, cond, List, [], ◌∷◌, ◌++◌, length, Option, Some, None, refl, ap, sym, subst, ◌∙◌, arith}
use Rattle.std.specs.Prelude.{IfSome, is_some, is_none}
use Rattle.std.proofs.lemmas.Bool.{cases_eq, eqb-true}
use Rattle.std.proofs.lemmas.Bool.Decides.{nat_tests}
use Rattle.std.proofs.lemmas.List.{take_all}
use Rattle.fmp_codes.specs.Numbers.{as_proc}
use Rattle.fmp_codes.specs.declared.numbers.Proc.{Proc}
use Rattle.fmp_codes.specs.declared.records.Event.{Event}
use Rattle.fmp_codes.specs.declared.records.Event.TheVariants as event
use Rattle.fmp_codes.specs.declared.records.Record.{Record}
use Rattle.fmp_codes.specs.declared.records.Runner.{Runner}
use Rattle.fmp_setup.specs.declared.setup.Timer.{Timer}
use Rattle.fmp_setup.specs.declared.setup.Timer.TheVariants.{Local, Global}
use Rattle.fmp_rules.specs.Arrivals.{numbered}
use Rattle.fmp_rules.specs.Boot.{booted}
use Rattle.fmp_setup.specs.Setup.{Setup, has_time}
use Rattle.fmp_rules.specs.Step.{replay}
use Rattle.fmp_setup.specs.Valid.{IsValid}
use Rattle.fmp_rules.specs.World.{processor, runner_of, is_held}
use Rattle.fmp_law_safety.proofs.Booted.{runs_safe}
use Rattle.fmp_law_safety.specs.Safe.{Safe, SafeAt}
use Rattle.fmp_text_scripts.specs.Scripts.{Steps}
use Rattle.fmp_smp.specs.declared.seeded.Mover.TheVariants.{Cpu, Clock}
use Rattle.fmp_smp.specs.Rounds.{Rounds, first_ticked, ticked, rounds_of, is_over, ticks_taken}
use Rattle.fmp_smp.specs.Seeds.{cpu_of, cpus_of, movers, IsInOrderOf, AreSeated, GoesOn}
use Rattle.fmp_smp.proofs.Following.{Follows}
use Rattle.fmp_smp.proofs.Shares.{share, share_all, share_within}
use Rattle.fmp_world.specs.declared.finishing.SmpRun.{SmpRun}
use Rattle.fmp_world.specs.Ends.{TicksWithin, TicksAre, EndsQuiet, IsWhole}
use Rattle.fmp_smp_histories.specs.Histories.{events_of, state_after, IsRunOf, is_idle}
use Rattle.fmp_smp_histories.specs.Scripted.{choice, next_call}
use Rattle.fmp_world.specs.Turns.{is_full}
use Rattle.fmp_world.specs.Views.{History, Seat, ClockSeat}
use Rattle.fmp_smp_histories.proofs.Histories.{count_after}
use Rattle.fmp_world.proofs.Judging.{fullness}

-- ---- who has nothing to do is idle

idle_so : (latch held : Bool) (c : Setup) (scripts : List Steps) (h : List Record) (p : Proc) (o : Option Runner) → (held ≡ true → is_some o ≡ true)
    → cond (latch && not held) (Some (event.Ipi p)) (next_call c scripts h p o) ≡ None → (is_none o && not latch) ≡ true
idle_so true true c scripts h p None occupied none = occupied refl
idle_so true true c scripts h p (Some r) occupied none = cc
idle_so true false c scripts h p o occupied none = cc
idle_so false held c scripts h p None occupied none = refl
idle_so false held c scripts h p (Some r) occupied none = cc

safe_after : (c : Setup) (h : List Record) → IsValid c → IsRunOf c h → Safe numbered (state_after c h)
unfolding state_after
safe_after c h valid run =
    subst (λ es. Safe numbered (replay numbered (booted c) es)) (take_all (length (events_of h)) (events_of h) (omega arith)) (runs_safe c (events_of h) valid run.on (length (events_of h)))

number_at_place : (i : ℕ) → i < 8 → (as_proc (i + 1)).number ≡ i + 1
number_at_place i small = omega (arith, small)

idle : (c : Setup) (scripts : List Steps) (h : List Record) (i : ℕ) → IsValid c → IsRunOf c h → i < c.processors → choice c scripts h (as_proc (i + 1)) ≡ None
    → is_idle (state_after c h) (as_proc (i + 1)) ≡ true
idle c scripts h i valid run small none =
    let p = as_proc (i + 1) in
    let m = state_after c h in
    let few = valid.few_processors in
    let is = number_at_place i (omega (arith, small, few)) in
    let count = count_after c h valid run in
    let safe : SafeAt numbered m p = (safe_after c h valid run).processors p (p.least, omega (arith, is, count, small)) in
    idle_so (processor m p).latch (is_held m p) c scripts h p (runner_of m p) safe.occupied none

-- ---- nobody can move

nil_parts : {X : Type 0} (xs ys : List X) → xs ++ ys ≡ [] → (xs ≡ []) × (ys ≡ [])
nil_parts [] ys none = (refl, none)
nil_parts (x ∷ xs) ys none = cc

no_cpu : (o : Option Event) (p : Proc) → cond (is_some o) (Cpu p ∷ []) [] ≡ [] → o ≡ None
no_cpu None p none = refl
no_cpu (Some e) p none = cc

no_cpus : (c : Setup) (scripts : List Steps) (h : List Record) (n i : ℕ) → i < n → cpus_of c scripts h n ≡ [] → choice c scripts h (as_proc (i + 1)) ≡ None
unfolding cpus_of
no_cpus c scripts h zero i small none = absurd (omega (arith, small))
no_cpus c scripts h (suc n) i small none =
    let parts = nil_parts (cpus_of c scripts h n) (cpu_of c scripts h (suc n)) none in
    elim (cases_eq i n) [
      | inl same ↦
          let last : suc n ≡ i + 1 = omega (arith, same) in
          subst (λ k. choice c scripts h (as_proc k) ≡ None) last (no_cpu (choice c scripts h (as_proc (suc n))) (as_proc (suc n)) parts.1)
      | inr other ↦ no_cpus c scripts h n i (omega (arith, small, other)) parts.0
    ]

no_clock : (b : Bool) → cond b [] (Clock ∷ []) ≡ [] → b ≡ true
no_clock true none = refl
no_clock false none = cc

nobody : (c : Setup) (scripts : List Steps) (h : List Record) (r : Rounds) → movers c scripts h r ≡ [] → (cpus_of c scripts h c.processors ≡ []) × (is_over r ≡ true)
unfolding movers
nobody c scripts h r none =
    let parts = nil_parts (cpus_of c scripts h c.processors) (cond (is_over r) [] (Clock ∷ [])) none in
    (parts.0, no_clock (is_over r) parts.1)

-- ---- all ticks are taken

-- the processors whose ticks count are those of a round
abbrev pub AreRounds : Timer → ℕ → Type 0
AreRounds timer n = (1 ≤ first_ticked timer) × (first_ticked timer + ticked timer n ≤ 9) × (1 ≤ ticked timer n)

pub are_rounds : (timer : Timer) (n : ℕ) → 1 ≤ n → n ≤ 8 → AreRounds timer n
are_rounds Local n least most = (omega arith, omega (arith, most), least)
are_rounds (Global master) n least most = (master.least, let few = master.most in omega (arith, few), omega arith)

in_rounds : (timer : Timer) (n i : ℕ) → i < n → n ≤ 8 → has_time timer (as_proc (i + 1)) ≡ true → (first_ticked timer ≤ i + 1) × (i + 1 < first_ticked timer + ticked timer n)
in_rounds Local n i small most timed = (omega arith, omega (arith, small))
in_rounds (Global master) n i small most timed =
    let is = eqb-true (as_proc (i + 1)).number master.number timed in
    let number = number_at_place i (omega (arith, small, most)) in
    (omega (arith, is, number), omega (arith, is, number))

module _ (seed ticks : ℕ) (w : History) (r : Rounds) (x : ℕ) (valid : IsValid w.config) (so : Follows seed ticks w r x) where
  ticks_within : TicksWithin w.config.processors ticks w.records
  ticks_within i small =
      let fit = are_rounds w.config.timer w.config.processors valid.has_processors valid.few_processors in
      rw (so.shares (i + 1)) (share_within (first_ticked w.config.timer) (ticked w.config.timer w.config.processors) fit.0 fit.1 fit.2 (i + 1) (ticks_taken w.records) ticks so.given)

  all_given : is_over r ≡ true → ticks_taken w.records ≡ ticks * ticked w.config.timer w.config.processors
  all_given over =
      let given = so.given in
      let done : is_over (rounds_of w.config ticks (ticks_taken w.records)) ≡ true = subst (λ q. is_over q ≡ true) so.rounds_are over in
      grind (arith, nat_tests)

  ticks_are : is_over r ≡ true → TicksAre w.config.timer w.config.processors ticks w.records
  ticks_are over i small timed =
      let fit = are_rounds w.config.timer w.config.processors valid.has_processors valid.few_processors in
      let place = in_rounds w.config.timer w.config.processors i small valid.few_processors timed in
      so.shares (i + 1)
      ∙ ap (share (first_ticked w.config.timer) (ticked w.config.timer w.config.processors) (i + 1)) (all_given over)
      ∙ share_all (first_ticked w.config.timer) (ticked w.config.timer w.config.processors) fit.0 fit.1 fit.2 (i + 1) ticks place.0 place.1

  ends_quiet : movers w.config w.scripts w.records r ≡ [] → EndsQuiet w.config ticks w.records
  ends_quiet none =
      let parts = nobody w.config w.scripts w.records r none in
      record {
        quiet = λ i small. idle w.config w.scripts w.records i valid so.run small (no_cpus w.config w.scripts w.records w.config.processors i small parts.0);
        all_taken = ticks_are parts.1;
      }

  is_whole : (cpus : List Seat) (clock : ClockSeat) (c : Setup) (scripts : List Steps) (turns : ℕ) → w.config ≡ c → w.scripts ≡ scripts → w.turns ≡ turns → AreSeated w cpus clock
      → (movers w.config w.scripts w.records r ≡ []) ⊎ (is_full w ≡ true) → IsWhole w cpus clock c scripts ticks turns
  is_whole cpus clock c scripts turns configured scripted room seated ended =
      rw (← configured, ← scripted, ← room) (record {
        config = refl;
        scripted = refl;
        room = refl;
        seats = seated.seats;
        taken_within = ticks_within;
        ended = elim ended [
          | inl none ↦ inl (ends_quiet none)
          | inr full ↦ inr ((fullness w).0 full)
        ];
      })

-- nobody can make a record, or the history is full
pub whole_at_end : (seed ticks : ℕ) (w : History) (r : Rounds) (x : ℕ) (b : Bool) (w' : History) (r' : Rounds) (x' : ℕ) (cpus : List Seat) (clock : ClockSeat)
    (c : Setup) (scripts : List Steps) (turns : ℕ) → b ≡ false → IsValid w.config → Follows seed ticks w r x → w.config ≡ c → w.scripts ≡ scripts → w.turns ≡ turns
    → AreSeated w' cpus clock → GoesOn w r x b w' r' x' → IsWhole w' cpus clock c scripts ticks turns × IsInOrderOf seed c scripts ticks w'.records
whole_at_end seed ticks w r x true w' r' x' cpus clock c scripts turns is valid so configured scripted room seated goes = cc
whole_at_end seed ticks w r x false w' r' x' cpus clock c scripts turns is valid so configured scripted room seated goes =
    let same : w' ≡ w = goes.1 in
    let there : AreSeated w cpus clock = subst (λ v. AreSeated v cpus clock) same seated in
    let whole : IsWhole w cpus clock c scripts ticks turns = is_whole seed ticks w r x valid so cpus clock c scripts turns configured scripted room there goes.0 in
    let ordered : IsInOrderOf seed c scripts ticks w.records = rw (← configured, ← scripted) so.ordered in
    (subst (λ v. IsWhole v cpus clock c scripts ticks turns) (sym same) whole, subst (λ (v : History). IsInOrderOf seed c scripts ticks v.records) (sym same) ordered)

-- the records of the run that the judge gives
pub judged_history : (o : Option SmpRun) (run : SmpRun) (w : History) → IfSome o (λ r. r.history ≡ w) → o ≡ Some run → run.history ≡ w
judged_history o run w are is = subst (λ x. IfSome x (λ r. r.history ≡ w)) is are

-- and its configuration is the one that the judge was given
pub judged_config : (o : Option SmpRun) (run : SmpRun) (c : Setup) → IfSome o (λ r. r.history.config ≡ c) → o ≡ Some run → run.history.config ≡ c
judged_config o run c are is = subst (λ x. IfSome x (λ r. r.history.config ≡ c)) is are
