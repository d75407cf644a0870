-- The ticks of a history are in turn.
use Rattle.std.proofs.Common.{◌≡◌, ℕ, ◌+◌, ◌≤◌, inl, inr, Bool, true, false, cond, List, [], ◌∷◌, ◌++◌, take, Option, Some, None, refl, ap, sym, subst, ◌∙◌, arith}
use Rattle.fmp_codes.specs.declared.numbers.Proc.{Proc}
use Rattle.fmp_codes.specs.declared.records.Event.{Event}
use Rattle.fmp_codes.specs.declared.records.Event.TheVariants.{Tick}
use Rattle.fmp_codes.specs.declared.records.Record.{Record}
use Rattle.fmp_codes.specs.Records.{is_tick}
use Rattle.fmp_setup.specs.Setup.{Setup}
use Rattle.fmp_setup.specs.Valid.{IsValid}
use Rattle.fmp_text_scripts.specs.Scripts.{Steps}
use Rattle.fmp_smp.specs.declared.seeded.Mover.{Mover}
use Rattle.fmp_smp.specs.declared.seeded.Mover.TheVariants.{Cpu, Clock}
use Rattle.fmp_smp.specs.Rounds.{Rounds, rounds_of, next_of, after_record, ticks_taken, Gives, Takes, IsDue, TicksInTurn, AreInTurn}
use Rattle.fmp_smp.specs.Seeds.{movers, drawn, event_of, number_at, IsInOrderOf}
use Rattle.fmp_smp.proofs.Moving.{IsOwn, choice_own, report_event, clock_rests, tick_counts, below_or_last}
use Rattle.fmp_smp.proofs.Following.{ticks_more, drawn_can, next_within}
use Rattle.fmp_world.specs.declared.seats.Turn.{Turn}
use Rattle.fmp_world.specs.declared.seats.Turn.TheVariants.{Made, Nothing, Full}
use Rattle.fmp_world.specs.Turns.{report_after}
use Rattle.fmp_world.specs.Views.{History, Seat, ClockSeat}
use Rattle.fmp_world.specs.Findings.{is_taken_tick}

-- ---- a history one record longer

-- what the clock has to give after one more record
rounds_more : (c : Setup) (ticks : ℕ) (h : List Record) (made : Record) → after_record (rounds_of c ticks (ticks_taken h)) made ≡ rounds_of c ticks (ticks_taken (h ++ made ∷ []))
rounds_more c ticks h made = stepped (is_taken_tick made) ∙ ap (rounds_of c ticks) (sym (ticks_more h made))
  where
    stepped : (b : Bool) → cond b (rounds_of c ticks (ticks_taken h + 1)) (rounds_of c ticks (ticks_taken h)) ≡ rounds_of c ticks (ticks_taken h + cond b 1 0)
    stepped true = refl
    stepped false = ap (rounds_of c ticks) (omega arith)

ticked_more : (c : Setup) (ticks : ℕ) (h : List Record) (made : Record) → TicksInTurn c ticks h
    → ((p : Proc) → made.event ≡ Tick p → IsDue (rounds_of c ticks (ticks_taken h)) p) → TicksInTurn c ticks (h ++ made ∷ [])
unfolding TicksInTurn
ticked_more c ticks h made all last = λ k r p at is.
    elim (below_or_last k h made r at) [
      | inl here ↦ rw here.0 (all k r p here.1 is)
      | inr end ↦ rw end.1 (last p (ap (λ (x : Record). x.event) (sym end.2) ∙ is))
    ]

-- ---- a turn and a tick of the threads

pub in_turn_at_first : (ticks : ℕ) (w : History) (c : Setup) (r : Rounds) → w.config ≡ c → w.records ≡ [] → r ≡ rounds_of c ticks 0 → AreInTurn ticks w r
unfolding TicksInTurn ticks_taken
in_turn_at_first ticks w c r configured none fresh = rw (fresh, none, configured) (refl, λ k x p at is. cc)

in_turn_more : (ticks : ℕ) (w : History) (r : Rounds) (e : Event) → AreInTurn ticks w r → ((p : Proc) → e ≡ Tick p → IsDue r p)
    → AreInTurn ticks (record w { records = w.records ++ report_after w e ∷ [] }) (after_record r (report_after w e))
in_turn_more ticks w r e so last =
    let made = report_after w e in
    let due : (p : Proc) → made.event ≡ Tick p → IsDue (rounds_of w.config ticks (ticks_taken w.records)) p =
    λ p is. subst (λ q. IsDue q p) so.0 (last p (sym (report_event w e) ∙ is)) in
    (ap (λ q. after_record q made) so.0 ∙ rounds_more w.config ticks w.records made, ticked_more w.config ticks w.records made so.1 due)

made_in_turn : (ticks : ℕ) (w : History) (r : Rounds) (e : Event) (w' : History) (r' : Rounds) → AreInTurn ticks w r → w' ≡ record w { records = w.records ++ report_after w e ∷ [] }
    → r' ≡ after_record r (report_after w e) → ((p : Proc) → e ≡ Tick p → IsDue r p) → AreInTurn ticks w' r'
made_in_turn ticks w r e w' r' so history rounds last = rw (history, rounds) (in_turn_more ticks w r e so last)

no_tick : (e : Event) (p : Proc) → is_tick e ≡ false → e ≡ Tick p → ⊥
no_tick e p other is = let none : is_tick (Tick p) ≡ false = subst (λ x. is_tick x ≡ false) is other in cc

same_tick : (p q : Proc) → Tick q ≡ Tick p → p ≡ q
same_tick p q is = cc

-- a turn is no tick
pub turn_in_turn : (ticks : ℕ) (w : History) (r : Rounds) (s : Seat) (t : Turn) (w' : History) (s' : Seat) → AreInTurn ticks w r → Takes w s t w' s' → AreInTurn ticks w' r
turn_in_turn ticks w r s (Made report) w' s' so takes =
    let own : IsOwn s.processor report.event = choice_own w.config w.scripts w.records s.processor report.event takes.1.1 in
    made_in_turn ticks w r report.event w' r so takes.1.2.history (sym (clock_rests w r report.event own.1)) (λ p is. absurd (no_tick report.event p own.1 is))
turn_in_turn ticks w r s Nothing w' s' so takes = rw takes.1.2 so
turn_in_turn ticks w r s Full w' s' so takes = rw takes.1 so

-- a tick is the one that is due
pub tick_in_turn : (ticks : ℕ) (w : History) (r : Rounds) (s : ClockSeat) (t : Turn) (w' : History) (r' : Rounds) (s' : ClockSeat) → AreInTurn ticks w r → Gives r w s t r' w' s'
    → AreInTurn ticks w' r'
tick_in_turn ticks w r s (Made report) w' r' s' so gives =
    made_in_turn ticks w r (Tick (next_of r)) w' r' so gives.2.2.history (tick_counts w r s report w' r' s' gives) (λ p is. (gives.0, same_tick p (next_of r) is))
tick_in_turn ticks w r s Nothing w' r' s' so gives = rw (gives.2, gives.1) so
tick_in_turn ticks w r s Full w' r' s' so gives = rw (gives.3, gives.2) so

-- ---- a history in the order of a seed

-- the tick that a number draws is due
drawn_due : (w : History) (r : Rounds) (number : ℕ) (p : Proc) (o : Option Mover) → (next_of r).number ≤ w.config.processors
    → drawn (movers w.config w.scripts w.records r) number ≡ o → event_of w.config w.scripts w.records r o ≡ Some (Tick p) → IsDue r p
drawn_due w r number p None small draws is = cc
drawn_due w r number p (Some (Cpu q)) small draws is =
    let own = choice_own w.config w.scripts w.records q (Tick p) is in
    absurd (no_tick (Tick p) p own.1 refl)
drawn_due w r number p (Some Clock) small draws is = let can = drawn_can w r number Clock small draws in (can.0, cc)

pub ordered_in_turn : (seed : ℕ) (c : Setup) (scripts : List Steps) (ticks : ℕ) (h : List Record) → IsValid c → IsInOrderOf seed c scripts ticks h → TicksInTurn c ticks h
unfolding TicksInTurn
ordered_in_turn seed c scripts ticks h valid ordered = λ k r p at is.
    let before : History = record { config = c; scripts = scripts; turns = 0; records = take k h } in
    let due = rounds_of c ticks (ticks_taken (take k h)) in
    let small = next_within c.timer c.processors (ticks_taken (take k h)) valid.has_processors valid.few_processors valid.timer in
    drawn_due before due (number_at seed k) p (drawn (movers c scripts (take k h) due) (number_at seed k)) small refl (ordered k r at ∙ ap Some is)
