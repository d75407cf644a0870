-- What holds between two records of a seeded run.
use Rattle.std.proofs.Common.{◌≡◌, ℕ, zero, suc, ◌+◌, ◌*◌, ◌%◌, ◌<◌, ◌≤◌, ◌==◌, ◌⊎◌, inl, inr, Bool, true, false, ◌&&◌, cond, List, [], ◌∷◌, ◌++◌, length, Some, None, refl, ap, sym, subst, ◌∙◌, arith}
use Rattle.std.specs.Prelude.{All, is_some, slice_get}
use Rattle.std.proofs.lemmas.Bool.{cases_Bool, and_right}
use Rattle.std.proofs.lemmas.Bool.Decides.{nat_tests}
use Rattle.std.proofs.lemmas.List.Elements.{All-nil, All-cons, All-append}
use Rattle.std.proofs.lemmas.List.Sums.{sum_by_push}
use Rattle.std.proofs.lemmas.Nat.{mod_below}
use Rattle.std.proofs.lemmas.Option.{slice_get_within, slice_get-get_or, get_or_from_slice_get}
use Rattle.fmp_codes.specs.Numbers.{as_proc}
use Rattle.fmp_codes.specs.Records.{processor_of, is_taken, is_tick}
use Rattle.fmp_codes.specs.declared.records.Event.{Event}
use Rattle.fmp_codes.specs.declared.records.Event.TheVariants as event
use Rattle.fmp_codes.specs.declared.records.Record.{Record}
use Rattle.fmp_setup.specs.declared.setup.Timer.{Timer}
use Rattle.fmp_setup.specs.declared.setup.Timer.TheVariants.{Local, Global}
use Rattle.fmp_setup.specs.Setup.{Setup}
use Rattle.fmp_setup.specs.Valid.{IsValid, IsTimerOf}
use Rattle.fmp_text_scripts.specs.Scripts.{Steps}
use Rattle.fmp_smp.specs.declared.seeded.Mover.{Mover}
use Rattle.fmp_smp.specs.declared.seeded.Mover.TheVariants.{Cpu, Clock}
use Rattle.fmp_smp.specs.Rounds.{Rounds, first_ticked, ticked, rounds_of, is_over, next_of, after_record, ticks_taken}
use Rattle.fmp_smp.specs.Seeds.{state_at, number_at, cpu_of, cpus_of, movers, drawn, event_of, event_drawn, IsInOrderOf, CanMove, Moves, Goes, GoesOn}
use Rattle.fmp_smp.proofs.Moving.{choice_own, report_event, order_more}
use Rattle.fmp_smp.proofs.Shares.{share}
use Rattle.fmp_smp_histories.specs.Counted as history
use Rattle.fmp_smp_histories.specs.Counted.{taken}
use Rattle.fmp_smp_histories.specs.Histories.{state_after, IsRunOf}
use Rattle.fmp_smp_histories.specs.Positions.{is_tick_of}
use Rattle.fmp_smp_histories.specs.Scripted.{choice}
use Rattle.fmp_world.specs.Turns.{opening, report_after}
use Rattle.fmp_world.specs.Views.{History}
use Rattle.fmp_smp_histories.proofs.Histories.{run_more}
use Rattle.fmp_world.proofs.Receipts.{taken_more}
use Rattle.fmp_world.specs.Findings.{is_taken_tick}
use Rattle.rand_xoshiro.specs.SplitMix64.{mix_u64, next_state}

-- ---- whoever is drawn can move

module _ (w : History) (r : Rounds) where
  cpu_can : (n : ℕ) (b : Bool) → b ≡ is_some (choice w.config w.scripts w.records (as_proc n)) → (as_proc n).number ≤ w.config.processors
      → All (CanMove w r) (cond b (Cpu (as_proc n) ∷ []) [])
  cpu_can n true is small = All-cons (CanMove w r) (Cpu (as_proc n)) [] (sym is, small) (All-nil (CanMove w r))
  cpu_can n false is small = All-nil (CanMove w r)

  cpus_can : (n : ℕ) → n ≤ w.config.processors → All (CanMove w r) (cpus_of w.config w.scripts w.records n)
  unfolding cpus_of
  cpus_can zero small = All-nil (CanMove w r)
  cpus_can (suc n) small =
      All-append (CanMove w r) (cpus_of w.config w.scripts w.records n) (cpu_of w.config w.scripts w.records (suc n)) (cpus_can n (omega (arith, small)))
      (cpu_can (suc n) _ refl (omega (arith, small)))

  clock_can : (b : Bool) → b ≡ is_over r → (next_of r).number ≤ w.config.processors → All (CanMove w r) (cond b [] (Clock ∷ []))
  clock_can true is small = All-nil (CanMove w r)
  clock_can false is small = All-cons (CanMove w r) Clock [] (sym is, small) (All-nil (CanMove w r))

  pub drawn_can : (number : ℕ) (m : Mover) → (next_of r).number ≤ w.config.processors → drawn (movers w.config w.scripts w.records r) number ≡ Some m → CanMove w r m
  unfolding drawn movers
  drawn_can number m small draws =
      let list = cpus_of w.config w.scripts w.records w.config.processors ++ cond (is_over r) [] (Clock ∷ []) in
      let all : All (CanMove w r) list =
      All-append (CanMove w r) (cpus_of w.config w.scripts w.records w.config.processors) (cond (is_over r) [] (Clock ∷ [])) (cpus_can w.config.processors (omega arith)) (clock_can (is_over r) refl small) in
      subst (CanMove w r) (get_or_from_slice_get list (number % length list) m m draws) (all (number % length list) m (slice_get_within list (number % length list) m draws))

-- where nobody is drawn there is nobody
none_drawn : (list : List Mover) (number : ℕ) → slice_get list (number % length list) ≡ None → list ≡ []
none_drawn [] number none = refl
none_drawn (m ∷ list) number none = absurd (nothing_past (m ∷ list) (number % length (m ∷ list)) (mod_below number (length (m ∷ list)) (omega arith)) none)
  where
    nothing_past : (xs : List Mover) (i : ℕ) → i < length xs → slice_get xs i ≡ None → ⊥
    nothing_past xs i small none = let is = slice_get-get_or xs i m small in cc

nobody_drawn : (w : History) (r : Rounds) (number : ℕ) → drawn (movers w.config w.scripts w.records r) number ≡ None → movers w.config w.scripts w.records r ≡ []
unfolding drawn
nobody_drawn w r number none = none_drawn (movers w.config w.scripts w.records r) number none

-- ---- the event of a mover

-- a call or an interrupt, or a tick that was left
abbrev pub IsMade : Rounds → Event → Type 0
IsMade r e = ((is_tick e ≡ false) × ((n : ℕ) → is_tick_of n e ≡ false)) ⊎ ((e ≡ event.Tick (next_of r)) × (is_over r ≡ false))

made_by : (w : History) (r : Rounds) (m : Mover) (e : Event) → CanMove w r m → event_of w.config w.scripts w.records r (Some m) ≡ Some e
    → ((processor_of e).number ≤ w.config.processors) × IsMade r e
made_by w r (Cpu p) e can does = let own = choice_own w.config w.scripts w.records p e does in (rw own.0 can.1, inl (own.1, own.3))
made_by w r Clock e can does = let is : e ≡ event.Tick (next_of r) = cc in (rw is can.1, inr (is, can.0))

-- the record of a tick that was taken, or of anything else
abbrev pub Counts : Rounds → Record → Type 0
Counts r made =
    ((is_taken_tick made ≡ false) × ((n : ℕ) → history.is_taken_tick n made ≡ false))
    ⊎ ((is_taken_tick made ≡ true) × ((n : ℕ) → history.is_taken_tick n made ≡ ((next_of r).number == n)) × (is_over r ≡ false))

and_true : (b c : Bool) → c ≡ true → (b && c) ≡ b
and_true true c is = is
and_true false c is = refl

pub counts_of : (r : Rounds) (e : Event) (made : Record) → made.event ≡ e → IsMade r e → Counts r made
counts_of r e made is (inl other) = inl (rw (is, other.0) refl, λ n. rw (is, other.1 n) refl)
counts_of r e made same (inr tick) =
    let is : made.event ≡ event.Tick (next_of r) = same ∙ tick.0 in
    elim (cases_Bool (is_taken made.answer)) [
      | inl took ↦ inr (rw is took, (λ n. rw is (and_true ((next_of r).number == n) (is_taken made.answer) took)), tick.1)
      | inr held ↦ inl (rw is held, λ n. rw is (and_right ((next_of r).number == n) (is_taken made.answer) held))
    ]

counts : (w : History) (r : Rounds) (e : Event) → IsMade r e → Counts r (report_after w e)
counts w r e made = counts_of r e (report_after w e) (report_event w e) made

-- ---- between two records

-- what holds between two records, after so many rounds of ticks
pub record Follows (seed : ℕ) (ticks : ℕ) (w : History) (r : Rounds) (x : ℕ) : Type 0 where
  pub within : length w.records ≤ w.turns
  pub run : IsRunOf w.config w.records
  pub rounds_are : r ≡ rounds_of w.config ticks (ticks_taken w.records)
  pub given : ticks_taken w.records ≤ ticks * ticked w.config.timer w.config.processors
  pub shares : (n : ℕ) → taken n w.records ≡ share (first_ticked w.config.timer) (ticked w.config.timer w.config.processors) n (ticks_taken w.records)
  pub number : x ≡ state_at seed (length w.records)
  pub ordered : IsInOrderOf seed w.config w.scripts ticks w.records

pub follows_at_first : (seed : ℕ) (c : Setup) (scripts : List Steps) (ticks turns : ℕ) → Follows seed ticks (opening c scripts turns) (rounds_of c ticks 0) seed
unfolding ticks_taken state_at state_after share
follows_at_first seed c scripts ticks turns = record {
  within = omega arith;
  run = record { answers = refl; on = All-nil (λ e. (processor_of e).number ≤ c.processors) };
  rounds_are = refl;
  given = omega arith;
  shares = λ n. refl;
  number = refl;
  ordered = λ k r at. cc;
}

pub ticks_more : (h : List Record) (r : Record) → ticks_taken (h ++ r ∷ []) ≡ ticks_taken h + cond (is_taken_tick r) 1 0
unfolding ticks_taken
ticks_more h r = sum_by_push (λ x. cond (is_taken_tick x) 1 0) h r

-- what the rounds are after one more record, how many ticks were taken, and of these each processor's
abbrev pub CountsOn : Setup → ℕ → List Record → Rounds → Type 0
CountsOn c ticks h r =
    (r ≡ rounds_of c ticks (ticks_taken h))
    × (ticks_taken h ≤ ticks * ticked c.timer c.processors)
    × ((n : ℕ) → taken n h ≡ share (first_ticked c.timer) (ticked c.timer c.processors) n (ticks_taken h))

pub counts_on : (c : Setup) (ticks : ℕ) (h : List Record) (made : Record) → CountsOn c ticks h (rounds_of c ticks (ticks_taken h)) → Counts (rounds_of c ticks (ticks_taken h)) made
    → CountsOn c ticks (h ++ made ∷ []) (after_record (rounds_of c ticks (ticks_taken h)) made)
unfolding share
counts_on c ticks h made so (inl other) =
    let more = ticks_more h made in
    let same : ticks_taken (h ++ made ∷ []) ≡ ticks_taken h = let none = other.0 in more ∙ ap (λ b. ticks_taken h + cond b 1 0) none ∙ omega arith in (
      ap (λ b. cond b (rounds_of c ticks (ticks_taken h + 1)) (rounds_of c ticks (ticks_taken h))) other.0 ∙ ap (rounds_of c ticks) (sym same),
      rw same so.1,
      λ n. let none : taken n h + 0 ≡ taken n h = omega arith in
          taken_more n h made ∙ ap (λ b. taken n h + cond b 1 0) (other.1 n) ∙ none ∙ so.2 n ∙ ap (share (first_ticked c.timer) (ticked c.timer c.processors) n) (sym same),
    )
counts_on c ticks h made so (inr tick) =
    let g = ticks_taken h in
    let first = first_ticked c.timer in
    let count = ticked c.timer c.processors in
    let more : ticks_taken (h ++ made ∷ []) ≡ suc g = ticks_more h made ∙ ap (λ b. g + cond b 1 0) tick.0 ∙ omega arith in
    let left : g < ticks * count = let going = tick.2 in grind (arith, nat_tests) in (
      ap (λ b. cond b (rounds_of c ticks (g + 1)) (rounds_of c ticks g)) tick.0 ∙ ap (rounds_of c ticks) (omega (arith, more)),
      omega (arith, more, left),
      λ n. taken_more n h made ∙ ap (λ b. taken n h + cond b 1 0) (tick.1 n) ∙ ap (λ t. t + cond ((as_proc (first + g % count)).number == n) 1 0) (so.2 n)
          ∙ ap (share first count n) (sym more),
    )

-- what the drawn one does is what the number draws
event_so : (c : Setup) (scripts : List Steps) (h : List Record) (r : Rounds) (n : ℕ) (m : Mover) (e : Event) → drawn (movers c scripts h r) n ≡ Some m
    → event_of c scripts h r (Some m) ≡ Some e → event_of c scripts h r (drawn (movers c scripts h r) n) ≡ Some e
event_so c scripts h r n m e draws does = rw draws does

length_more : (h : List Record) (r : Record) → length (h ++ r ∷ []) ≡ suc (length h)
length_more [] r = refl
length_more (x ∷ h) r = ap suc (length_more h r)

-- the processor of the next tick is one of the machine
pub next_within : (timer : Timer) (n g : ℕ) → 1 ≤ n → n ≤ 8 → IsTimerOf n timer → (as_proc (first_ticked timer + g % ticked timer n)).number ≤ n
next_within Local n g least most so = let below = mod_below g n least in omega (arith, below)
next_within (Global master) n g least most so = let below = mod_below g 1 (omega arith) in omega (arith, below, so, master.least)

pub next_so : (w : History) (r : Rounds) (seed ticks x : ℕ) → IsValid w.config → Follows seed ticks w r x → (next_of r).number ≤ w.config.processors
next_so w r seed ticks x valid so =
    rw so.rounds_are (next_within w.config.timer w.config.processors (ticks_taken w.records) valid.has_processors valid.few_processors valid.timer)

after_move : (seed ticks : ℕ) (w : History) (x : ℕ) (m : Mover) (w' : History) (r' : Rounds) (x' : ℕ) → IsValid w.config
    → Follows seed ticks w (rounds_of w.config ticks (ticks_taken w.records)) x → drawn (movers w.config w.scripts w.records (rounds_of w.config ticks (ticks_taken w.records))) (mix_u64 x).0 ≡ Some m
    → Moves w (rounds_of w.config ticks (ticks_taken w.records)) m w' r' → x' ≡ next_state x → Follows seed ticks w' r' x'
unfolding state_at number_at
after_move seed ticks w x m w' r' x' valid so draws moves next =
    let r = rounds_of w.config ticks (ticks_taken w.records) in
    let e = moves.event in
    let made = report_after w e in
    let is : made.event ≡ e = report_event w e in
    let can : CanMove w r m = drawn_can w r (mix_u64 x).0 m (next_so w r seed ticks x valid so) draws in
    let by = made_by w r m e can moves.does in
    let on = counts_on w.config ticks w.records made (refl, so.given, so.shares) (counts w r e by.1) in
    let event : event_of w.config w.scripts w.records r (drawn (movers w.config w.scripts w.records r) (mix_u64 x).0) ≡ Some e = event_so w.config w.scripts w.records r (mix_u64 x).0 m e draws moves.does in
    let drawn_so : event_drawn w.config w.scripts ticks w.records (number_at seed (length w.records)) ≡ Some made.event =
    ap (λ n. event_of w.config w.scripts w.records r (drawn (movers w.config w.scripts w.records r) (mix_u64 n).0)) (sym so.number) ∙ event ∙ ap Some (sym is) in
    let long : length (w.records ++ made ∷ []) ≡ suc (length w.records) = length_more w.records made in
    subst (λ v. Follows seed ticks v r' x') (sym moves.history) (record {
      within = let room = moves.room in omega (arith, long, room);
      run = run_more w.config w.records e made so.run refl is by.0;
      rounds_are = moves.rounds ∙ on.0;
      given = on.1;
      shares = on.2;
      number = next ∙ ap next_state so.number ∙ ap (state_at seed) (sym long);
      ordered = order_more seed w.config w.scripts ticks w.records made so.ordered drawn_so;
    })

follows_on : (seed ticks : ℕ) (w : History) (r : Rounds) (x : ℕ) (m : Mover) (w' : History) (r' : Rounds) (x' : ℕ) → IsValid w.config
    → Follows seed ticks w r x → drawn (movers w.config w.scripts w.records r) (mix_u64 x).0 ≡ Some m → Moves w r m w' r' → x' ≡ next_state x → Follows seed ticks w' r' x'
follows_on seed ticks w r x m w' r' x' valid so draws moves next =
    after_move seed ticks w x m w' r' x' valid (subst (λ q. Follows seed ticks w q x) so.rounds_are so)
    (subst (λ q. drawn (movers w.config w.scripts w.records q) (mix_u64 x).0 ≡ Some m) so.rounds_are draws)
    (subst (λ q. Moves w q m w' r') so.rounds_are moves) next

-- ---- the next record

pub goes_on : (w : History) (r : Rounds) (x : ℕ) (m : Mover) (b : Bool) (w' : History) (r' : Rounds) (x' : ℕ) → drawn (movers w.config w.scripts w.records r) (mix_u64 x).0 ≡ Some m
    → Goes w r m b w' r' → x' ≡ next_state x → GoesOn w r x b w' r' x'
goes_on w r x m true w' r' x' draws goes next = (m, draws, goes, next)
goes_on w r x m false w' r' x' draws goes next = (inr goes.0, goes.1, goes.2, next)

pub nobody_goes : (w : History) (r : Rounds) (x x' : ℕ) → drawn (movers w.config w.scripts w.records r) (mix_u64 x).0 ≡ None → x' ≡ next_state x → GoesOn w r x false w r x'
nobody_goes w r x x' none next = (inl (nobody_drawn w r (mix_u64 x).0 none), refl, refl, next)

-- what one more record keeps
pub record Carries (seed ticks : ℕ) (w w' : History) (r' : Rounds) (x' : ℕ) : Type 0 where
  pub config : w'.config ≡ w.config
  pub scripted : w'.scripts ≡ w.scripts
  pub turns : w'.turns ≡ w.turns
  pub room : length w.records < w.turns
  pub longer : length w'.records ≡ suc (length w.records)
  pub follows : Follows seed ticks w' r' x'

pub carries : (seed ticks : ℕ) (w : History) (r : Rounds) (x : ℕ) (b : Bool) (w' : History) (r' : Rounds) (x' : ℕ) → b ≡ true → IsValid w.config → Follows seed ticks w r x
    → GoesOn w r x b w' r' x' → Carries seed ticks w w' r' x'
carries seed ticks w r x true w' r' x' is valid so goes =
    let moves : Moves w r goes.0 w' r' = goes.2 in
    record {
      config = ap (λ (v : History). v.config) moves.history;
      scripted = ap (λ (v : History). v.scripts) moves.history;
      turns = ap (λ (v : History). v.turns) moves.history;
      room = moves.room;
      longer = ap (λ (v : History). length v.records) moves.history ∙ length_more w.records (report_after w moves.event);
      follows = follows_on seed ticks w r x goes.0 w' r' x' valid so goes.1 moves goes.3;
    }
carries seed ticks w r x false w' r' x' is valid so goes = cc
