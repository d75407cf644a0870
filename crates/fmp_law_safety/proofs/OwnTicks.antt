-- What reaches 0 at a tick.
use Rattle.std.proofs.Common.{◌≡◌, ℕ, zero, suc, ◌-◌, ◌<◌, Bool, true, false, List, [], ◌∷◌, length, sym, ap, ◌∙◌, arith, Option, Some, None, ⊎_elim}
use Rattle.std.specs.Prelude.{slice_index_or, replicate}
use Rattle.std.proofs.lemmas.Bool.{cases_eq, cond_both, eqb-true, false≢true}
use Rattle.std.proofs.lemmas.List.{get_or-replicate}
use Rattle.fmp_codes.specs.declared.numbers.Proc.{Proc}
use Rattle.fmp_setup.specs.declared.setup.Class.{Class}
use Rattle.fmp_setup.specs.declared.setup.Timer.{Timer}
use Rattle.fmp_setup.specs.declared.setup.Timer.TheVariants as timer
use Rattle.fmp_rules.specs.declared.machine.Cyclic.{Cyclic}
use Rattle.fmp_rules.specs.declared.machine.Alarm.{Alarm}
use Rattle.fmp_setup.specs.Setup.{has_member, alone, MayHandle, counts_for}
use Rattle.fmp_rules.specs.World.{World, item}
use Rattle.fmp_rules.specs.Ordering.{Ordering}
use Rattle.fmp_rules.specs.Tick.{lowered, counted_down, is_over}
use Rattle.fmp_law_safety.specs.Safe.{TicksInRange, Safe}
use Rattle.fmp_law_safety.specs.Laws.{ServesItsOwn}
use Rattle.fmp_law_safety.proofs.Items.{item_other}

not_over : (o : Option ℕ) → TicksInRange o → is_over o ≡ true → ⊥
not_over None h e = false≢true e
not_over (Some n) h e = let least = h.0 in let none = eqb-true n 0 e in omega (arith, least, none)

-- a count in range that is 0 now fell, so that it is one of an item that qualifies
over_qualifies : {X : Type 0} (qualifies : X → Bool) (blank : X) (xs : List X) (counts : List (Option ℕ)) (i : ℕ) → TicksInRange (slice_index_or counts i None) →
    is_over (slice_index_or (lowered qualifies xs counts) i None) ≡ true → (i < length xs) × (qualifies (slice_index_or xs i blank) ≡ true)
over_qualifies qualifies blank [] counts i h e = absurd (not_over (slice_index_or counts i None) h e)
over_qualifies qualifies blank (x ∷ xs) [] i h e = absurd (false≢true e)
over_qualifies qualifies blank (x ∷ xs) (n ∷ ns) zero h e =
    cond_both (qualifies x) _ n (λ (o : Option ℕ). is_over o ≡ true → (0 < suc (length xs)) × (qualifies x ≡ true)) (λ q _. (omega arith, q)) (λ _ over. absurd (not_over n h over)) e
over_qualifies qualifies blank (x ∷ xs) (n ∷ ns) (suc i) h e = let r = over_qualifies qualifies blank xs ns i h e in let below = r.0 in (omega (arith, below), r.1)

-- where a class has one processor alone, its members are that one
sole_member : (p q : Proc) → item false (alone p) q.number ≡ true → q.number ≡ p.number
sole_member p q e =
    ⊎_elim (λ (same : q.number ≡ p.number). same)
    (λ (d : q.number ≡ p.number → ⊥).
    let below : q.number - 1 < 8 = omega (arith, q.least, q.most) in
    absurd (false≢true (sym (item_other false (replicate 8 false) p.number true q.number q.least p.least d ∙ get_or-replicate 8 (q.number - 1) false false below) ∙ e)))
    (cases_eq q.number p.number)

-- a handler for which p counts is assigned to p
own_handler : (t : Timer) (p : Proc) (c : Class) (q : Proc) → MayHandle t c → has_member c q ≡ true → counts_for t p q ≡ true → q.number ≡ p.number
own_handler timer.Local p c q h m e = eqb-true q.number p.number e
own_handler (timer.Global master) p c q h m e =
    let at : p.number ≡ master.number = eqb-true p.number master.number e in
    sole_member master q (sym (ap (λ ms. slice_index_or ms (q.number - 1) false) h) ∙ m) ∙ sym at

pub serves_its_own : {Q : Type 0} (k : Ordering Q) (w : World Q) (p : Proc) → Safe k w → ServesItsOwn w p
unfolding counted_down
serves_its_own k w p s = record {
  waits = λ t e. (over_qualifies (λ r. counts_for w.timer p r.assigned) _ w.tasks w.waits_left (t.number - 1) (s.counts.waits t) e).1;
  cyclics = λ c e.
      let over = over_qualifies (λ (x : Cyclic). counts_for w.timer p x.assigned) _ w.cyclics w.cyclics_left (c.number - 1) (s.counts.cyclics c) e in
      let r = s.in_range.cyclics (c.number - 1) _ over.0 in
      own_handler w.timer p _ _ r.served r.assigned over.1;
  alarms = λ a e.
      let over = over_qualifies (λ (x : Alarm). counts_for w.timer p x.assigned) _ w.alarms w.alarms_left (a.number - 1) (s.counts.alarms a) e in
      let r = s.in_range.alarms (a.number - 1) _ over.0 in
      own_handler w.timer p _ _ r.served r.assigned over.1;
}
