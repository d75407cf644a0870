-- Turns and ticks as moves, and a history that is one record longer.
use Rattle.std.proofs.Common.{◌≡◌, ℕ, zero, suc, ◌+◌, ◌==◌, Bool, true, false, List, [], ◌∷◌, ◌++◌, length, take, Option, Some, None, slice_get, cond, ◌⊎◌, inl, inr, refl, ap, sym, ◌∙◌}
use Rattle.fmp_rules.proofs.Replays.{step_event}
use Rattle.fmp_codes.specs.Records.{processor_of, is_taken, is_tick}
use Rattle.fmp_codes.specs.declared.numbers.Proc.{Proc}
use Rattle.fmp_codes.specs.declared.records.Event.{Event}
use Rattle.fmp_codes.specs.declared.records.Event.TheVariants as event
use Rattle.fmp_codes.specs.declared.records.Record.{Record}
use Rattle.fmp_codes.specs.declared.records.Runner.{Runner}
use Rattle.fmp_setup.specs.Setup.{Setup}
use Rattle.fmp_text_scripts.specs.Scripts.{Steps}
use Rattle.fmp_smp.specs.declared.seeded.Mover.TheVariants.{Cpu, Clock}
use Rattle.fmp_smp.specs.Rounds.{Rounds, next_of, after_record, Gives}
use Rattle.fmp_smp.specs.Seeds.{number_at, event_drawn, IsInOrderOf, Moves}
use Rattle.fmp_world.specs.declared.seats.Receipt.{Receipt}
use Rattle.fmp_world.specs.declared.seats.Turn.TheVariants.{Made}
use Rattle.fmp_world.specs.Ends.{is_of_cpu}
use Rattle.fmp_smp_histories.specs.Histories.{state_after}
use Rattle.fmp_smp_histories.specs.Positions.{is_tick_of}
use Rattle.fmp_smp_histories.specs.Scripted.{choice, next_call, asked_at, position_of}
use Rattle.fmp_world.specs.Turns.{report_after, Turns}
use Rattle.fmp_world.specs.Views.{History, Seat, ClockSeat}
use Rattle.fmp_world.specs.Findings.{is_taken_tick}

-- ---- what a processor does is its own, and no tick

-- the event is a call or an interrupt of this processor
abbrev pub IsOwn : Proc → Event → Type 0
IsOwn p e = (processor_of e ≡ p) × (is_tick e ≡ false) × ((n : ℕ) → is_of_cpu n e ≡ (p.number == n)) × ((n : ℕ) → is_tick_of n e ≡ false)

next_own : (c : Setup) (scripts : List Steps) (h : List Record) (p : Proc) (o : Option Runner) (e : Event) → next_call c scripts h p o ≡ Some e → IsOwn p e
next_own c scripts h p None e picked = cc
next_own c scripts h p (Some r) e picked =
    let is : e ≡ event.Call p (asked_at c scripts r (position_of c scripts r p h)) = cc in
    rw is (refl, refl, λ n. refl, λ n. refl)

picked_own : (p : Proc) (b : Bool) (o : Option Event) (e : Event) → (o ≡ Some e → IsOwn p e) → cond b (Some (event.Ipi p)) o ≡ Some e → IsOwn p e
picked_own p true o e other picked = let is : e ≡ event.Ipi p = cc in rw is (refl, refl, λ n. refl, λ n. refl)
picked_own p false o e other picked = other picked

pub choice_own : (c : Setup) (scripts : List Steps) (h : List Record) (p : Proc) (e : Event) → choice c scripts h p ≡ Some e → IsOwn p e
choice_own c scripts h p e picked = picked_own p _ _ e (next_own c scripts h p _ e) picked

-- ---- moves

-- the record of an event is of that event
pub report_event : (w : History) (e : Event) → (report_after w e).event ≡ e
report_event w e = step_event (state_after w.config w.records) e

-- the clock stands still where the record is of no tick
pub clock_rests : (w : History) (r : Rounds) (e : Event) → is_tick e ≡ false → after_record r (report_after w e) ≡ r
clock_rests w r e timed = let is = report_event w e in rw (is, timed) refl

pub turn_moves : (w : History) (r : Rounds) (p : Proc) (s : Seat) (report : Receipt) (w' : History) (s' : Seat) → Turns w s (Made report) w' s' → s.processor ≡ p → Moves w r (Cpu p) w' r
turn_moves w r p s report w' s' takes is =
    let picks : choice w.config w.scripts w.records p ≡ Some report.event = ap (λ q. choice w.config w.scripts w.records q) (sym is) ∙ takes.1 in
    record {
      event = report.event;
      does = picks;
      room = takes.0.0;
      history = takes.2.history;
      rounds = sym (clock_rests w r report.event (choice_own w.config w.scripts w.records p report.event picks).1);
    }

-- the clock goes on by the record of its tick
pub tick_counts : (w : History) (r : Rounds) (s : ClockSeat) (report : Receipt) (w' : History) (r' : Rounds) (s' : ClockSeat) → Gives r w s (Made report) r' w' s'
    → r' ≡ after_record r (report_after w (event.Tick (next_of r)))
tick_counts w r s report w' r' s' gives =
    let e : Event = event.Tick (next_of r) in
    let made : Record = report_after w e in
    let ticks = gives.2 in
    let answered : report.answer ≡ made.answer = rw ticks.2.receipt refl in
    let counts : is_taken_tick made ≡ is_taken made.answer = rw (report_event w e) refl in
    gives.3 ∙ ap (λ b. cond b (record r { given = r.given + 1 }) r) (ap is_taken answered ∙ sym counts)

pub tick_moves : (w : History) (r : Rounds) (s : ClockSeat) (report : Receipt) (w' : History) (r' : Rounds) (s' : ClockSeat) → Gives r w s (Made report) r' w' s' → Moves w r Clock w' r'
tick_moves w r s report w' r' s' gives =
    let ticks = gives.2 in
    record {
      event = event.Tick (next_of r);
      does = refl;
      room = ticks.0.0;
      history = ticks.2.history;
      rounds = tick_counts w r s report w' r' s' gives;
    }

-- ---- a history one record longer

-- what stands in a list that is one longer stands in the list, or it is the new one
pub below_or_last : (n : ℕ) (h : List Record) (r x : Record) → slice_get (h ++ r ∷ []) n ≡ Some x
    → ((take n (h ++ r ∷ []) ≡ take n h) × (slice_get h n ≡ Some x)) ⊎ ((n ≡ length h) × (take n (h ++ r ∷ []) ≡ h) × (x ≡ r))
below_or_last zero [] r x at = inr (refl, refl, cc)
below_or_last (suc n) [] r x at = cc
below_or_last zero (y ∷ h) r x at = inl (refl, at)
below_or_last (suc n) (y ∷ h) r x at = elim (below_or_last n h r x at) [
  | inl p ↦ inl (ap (λ l. y ∷ l) p.0, p.1)
  | inr p ↦ inr (ap suc p.0, ap (λ l. y ∷ l) p.1, p.2)
]

pub order_more : (seed : ℕ) (c : Setup) (scripts : List Steps) (rounds : ℕ) (h : List Record) (r : Record) → IsInOrderOf seed c scripts rounds h
    → event_drawn c scripts rounds h (number_at seed (length h)) ≡ Some r.event → IsInOrderOf seed c scripts rounds (h ++ r ∷ [])
order_more seed c scripts rounds h r all last = λ n x at.
    elim (below_or_last n h r x at) [
      | inl here ↦ rw here.0 (all n x here.1)
      | inr end ↦ rw (end.1, end.0, end.2) last
    ]
