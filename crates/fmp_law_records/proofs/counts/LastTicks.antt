-- The last tick of an alarm comes where its records say.
use Rattle.std.proofs.Common.{◌≡◌, ℕ, ◌+◌, ◌-◌, ◌≤◌, ◌==◌, Bool, true, false, ◌&&◌, List, [], ◌∷◌, ◌++◌, refl, sym, ap, ◌∙◌, arith, Option, Some, None, ⊎_elim}
use Rattle.std.specs.Prelude.{if◌then◌else◌}
use Rattle.std.proofs.lemmas.Bool.{cases_eq, cond_both, cond-true, cond-false, eq-eqb, eqb-true, ne_eqb}
use Rattle.fmp_codes.specs.declared.numbers.Object.{Object}
use Rattle.fmp_codes.specs.declared.records.Event.{Event}
use Rattle.fmp_codes.specs.declared.records.Record.{Record}
use Rattle.fmp_setup.specs.Setup.{Setup}
use Rattle.fmp_rules.specs.Objects.{alarm}
use Rattle.fmp_law_balance.specs.Waits.Meanings.{ticks_in}
use Rattle.fmp_rules.specs.Arrivals.{State, numbered}
use Rattle.fmp_rules.specs.Step.{step, replay}
use Rattle.fmp_rules.specs.Boot.{booted}
use Rattle.fmp_law_balance.specs.Accepted.{is_accepted, one_if}
use Rattle.fmp_law_balance.specs.Waits.Waits.{is_tick_for}
use Rattle.fmp_law_records.specs.Counts.Alarms.{starts_alarm, stops_alarm, without_tick, alarm_left_after, alarm_left_by, is_last, ticks_for_alarm, LeaveAlarm, RingsAtLastTick}

-- two tests of numbers that are equal alike
same_test : (a b i j : ℕ) → (a ≡ b → i ≡ j) → (i ≡ j → a ≡ b) → (a == b) ≡ (i == j)
same_test a b i j there back =
    ⊎_elim (λ (e : a ≡ b). eq-eqb a b e ∙ sym (eq-eqb i j (there e))) (λ (d : a ≡ b → ⊥). ne_eqb a b d ∙ sym (ne_eqb i j (λ e. d (back e)))) (cases_eq a b)

-- a tick that counts takes one, and the last one leaves none
by_count : (b : Bool) (n : ℕ) (last : Option ℕ → Bool) (ticks : ℕ) → (n ≡ 1 → last None ≡ (1 + ticks + 1 == n)) → ((n ≡ 1 → ⊥) → last (Some (n - 1)) ≡ (1 + ticks + 1 == n)) →
    last (Some n) ≡ (0 + ticks + 1 == n) → last (if b then without_tick None (Some n) else Some n) ≡ (one_if b + ticks + 1 == n)
by_count false n last ticks at_end before_end as_before = as_before
by_count true n last ticks at_end before_end as_before =
    ⊎_elim (λ (e : n ≡ 1). ap (λ (b : Bool). last (if b then None else Some (n - 1))) (eq-eqb n 1 e) ∙ at_end e)
    (λ (d : n ≡ 1 → ⊥). ap (λ (b : Bool). last (if b then None else Some (n - 1))) (ne_eqb n 1 d) ∙ before_end d) (cases_eq n 1)

module _ (a : Object) where
  left_append : (m : State) (es fs : List Event) (left : Option ℕ) → alarm_left_by a m (es ++ fs) left ≡ alarm_left_by a (replay numbered m es) fs (alarm_left_by a m es left)
  left_append m [] fs left = refl
  left_append m (e ∷ es) fs left = left_append (step numbered m e).0 es fs (alarm_left_after m a (step numbered m e).1 left)

  abbrev counts : State → Record → Bool
  counts m r = is_tick_for m.timer (alarm m a).assigned r.answer r.event

  -- where it is neither started nor stopped
  left_alone : (m : State) (r : Record) (left : Option ℕ) → (starts_alarm a r.event && is_accepted r.answer) ≡ false → (stops_alarm a r.event && is_accepted r.answer) ≡ false →
      alarm_left_after m a r left ≡ (if counts m r then without_tick None left else left)
  left_alone m r left no_start no_stop = cond-false (starts_alarm a r.event && is_accepted r.answer) _ _ no_start ∙ cond-false (stops_alarm a r.event && is_accepted r.answer) _ _ no_stop

  none_stays : (m : State) (es : List Event) → LeaveAlarm a m es → alarm_left_by a m es None ≡ None
  none_stays m [] h = refl
  none_stays m (e ∷ es) h =
      let v : State = (step numbered m e).0 in
      let r : Record = (step numbered m e).1 in
      let now : alarm_left_after m a r None ≡ None = left_alone m r None h.0 h.1 ∙ cond_both (counts m r) None None (λ (o : Option ℕ). o ≡ None) (λ _. refl) (λ _. refl) in
      ap (alarm_left_by a v es) now ∙ none_stays v es h.2

  last_after : (m : State) (es : List Event) (n : ℕ) → 1 ≤ n → LeaveAlarm a m es → is_last (alarm_left_by a m es (Some n)) ≡ (ticks_for_alarm a m es + 1 == n)
  last_after m [] n least h = same_test n 1 1 n sym sym
  last_after m (e ∷ es) n least h =
      let v : State = (step numbered m e).0 in
      let r : Record = (step numbered m e).1 in
      let ticks : ℕ = ticks_for_alarm a v es in
      let now = left_alone m r (Some n) h.0 h.1 in
      let at_end : n ≡ 1 → is_last (alarm_left_by a v es None) ≡ (1 + ticks + 1 == n) =
      λ (one : n ≡ 1). let more : 1 + ticks + 1 ≡ n → ⊥ = λ (e : 1 + ticks + 1 ≡ n). omega (arith, e, one) in ap is_last (none_stays v es h.2) ∙ sym (ne_eqb (1 + ticks + 1) n more) in
      let before_end : (n ≡ 1 → ⊥) → is_last (alarm_left_by a v es (Some (n - 1))) ≡ (1 + ticks + 1 == n) =
      λ (d : n ≡ 1 → ⊥).
      last_after v es (n - 1) (omega (arith, least, d)) h.2
      ∙ same_test (ticks + 1) (n - 1) (1 + ticks + 1) n (λ (e : ticks + 1 ≡ n - 1). omega (arith, e, least, d)) (λ (e : 1 + ticks + 1 ≡ n). omega (arith, e)) in
      ap (λ (o : Option ℕ). is_last (alarm_left_by a v es o)) now
      ∙ by_count (counts m r) n (λ (o : Option ℕ). is_last (alarm_left_by a v es o)) ticks at_end before_end
      (last_after v es n least h.2 ∙ same_test (ticks + 1) n (0 + ticks + 1) n (λ (e : ticks + 1 ≡ n). omega (arith, e)) (λ (e : 0 + ticks + 1 ≡ n). omega (arith, e)))

pub rings_at_last_tick : (c : Setup) (earlier : List Event) (e : Event) (later : List Event) (a : Object) (n : ℕ) → RingsAtLastTick c earlier e later a n
rings_at_last_tick c earlier e later a n starts time alone =
    let m : State = replay numbered (booted c) earlier in
    let r : Record = (step numbered m e).1 in
    let v : State = (step numbered m e).0 in
    let first : alarm_left_after m a r (alarm_left_by a (booted c) earlier None) ≡ Some (n + 1) = cond-true (starts_alarm a r.event && is_accepted r.answer) _ _ starts ∙ ap ticks_in time in
    let left : alarm_left_by a (booted c) (earlier ++ e ∷ later) None ≡ alarm_left_by a v later (Some (n + 1)) = left_append a (booted c) earlier (e ∷ later) None ∙ ap (alarm_left_by a v later) first in
    let report : is_last (alarm_left_by a (booted c) (earlier ++ e ∷ later) None) ≡ (ticks_for_alarm a v later + 1 == n + 1) = ap is_last left ∙ last_after a v later (n + 1) (omega arith) alone in (
      λ last. let same : ticks_for_alarm a v later + 1 ≡ n + 1 = eqb-true _ _ (sym report ∙ last) in omega (arith, same),
      λ same. let more : ticks_for_alarm a v later + 1 ≡ n + 1 = omega (arith, same) in report ∙ eq-eqb _ _ more,
    )
