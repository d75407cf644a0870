-- A step that makes the event of another with a mark.
use Rattle.std.proofs.Common.{◌≡◌, ◌≤◌, ◌<◌, ◌/◌, ◌%◌, ◌*◌, ◌^◌, ℕ, ◌+◌, Bool, true, false, None, Some, ap, subst, ◌∙◌, refl, arith, bit_or, w64, ⊎_elim}
use Rattle.std.specs.Int.{bit_at}
use Rattle.std.proofs.lemmas.Bool.{cases_eq}
use Rattle.std.proofs.lemmas.Nat.Bits.{bit_at_set_other}
use Rattle.fmp_codes.specs.declared.records.Event.{Event}
use Rattle.fmp_codes.specs.declared.records.Record.{Record}
use Rattle.fmp_rules.specs.Step.{step}
use Rattle.fmp_kernel_order.specs.Queues.{listed}
use Rattle.fmp_search.specs.Runs.{Closes}
use Rattle.fmp_search_pattern.specs.Questions.{allows}
use Rattle.fmp_search_kernel.specs.Walked.{ClosesMark, Walked}
use Rattle.fmp_search_orders.specs.Places.{Place, after, event_of, is_marked, sight_at, went}

-- one bit was added
pub one_added : (old n s : ℕ) → n < 64 → bit_at old s ≡ 0 → bit_at (bit_or old (1 * 2 ^ n % 18446744073709551616)) s ≡ 1 → s ≡ n
one_added old n s few none has = ⊎_elim (λ (e : s ≡ n). e) (λ (e : s ≡ n → ⊥). let was = bit_at_set_other w64 old n few s e in absurd (omega (arith, was, none, has))) (cases_eq s n)

no_mark : (s : ℕ) → is_marked s ≡ false → s % 6 < 3
no_mark s plain = search (arith, plain)

same_event : (w : Place) (s : ℕ) → is_marked s ≡ false → event_of w (s + 3) ≡ event_of w s
same_event w s plain =
    let low = no_mark s plain in
    let quotient : (s + 3) / 6 ≡ s / 6 = omega (arith, low) in
    let rest : (s + 3) % 6 % 3 ≡ s % 6 % 3 = omega (arith, low) in
    rw (quotient, rest) refl

with_mark : (s : ℕ) → is_marked s ≡ false → is_marked (s + 3) ≡ true
with_mark s plain =
    let low = no_mark s plain in
    let rest : 3 ≤ (s + 3) % 6 = omega (arith, low) in
    search (arith, rest)

-- where an event may not have a mark, the step that gives it one leads nowhere
cannot : (w : Place) (s : ℕ) (e : Event) → event_of w s ≡ Some e → is_marked s ≡ false →
    allows w.question w.seen true (sight_at (went w false (step listed w.machine e)) (step listed w.machine e).1) ≡ false → after w (s + 3) ≡ None
unfolding after
cannot w s e is plain refused = rw (same_event w s plain ∙ is, with_mark s plain) (rw refused refl)

-- what is closed after an event that was made without a mark
pub closes : (w : Place) (v : Walked) (s : ℕ) (e : Event) (seen old new : ℕ) (mark : Bool) → event_of w s ≡ Some e → seen ≡ w.seen → mark ≡ is_marked s →
    v.place ≡ went w mark (step listed w.machine e) → v.made ≡ (step listed w.machine e).1 → ClosesMark v.place v.made seen s old new → Closes after w old new
closes w v s e seen old new mark is seen_is mark_is there report closed k none has =
    let got = closed k none has in
    let plain = mark_is ∙ got.1 in
    let there' : v.place ≡ went w false (step listed w.machine e) = there ∙ ap (λ (b : Bool). went w b (step listed w.machine e)) plain in
    let by_seen = subst (λ (n : ℕ). allows v.place.question n true (sight_at v.place v.made) ≡ false) seen_is got.2 in
    let by_place = subst (λ (x : Place). allows x.question w.seen true (sight_at x v.made) ≡ false) there' by_seen in
    let refused = subst (λ (r : Record). allows w.question w.seen true (sight_at (went w false (step listed w.machine e)) r) ≡ false) report by_place in
    rw got.0 (cannot w s e is got.1 refused)
