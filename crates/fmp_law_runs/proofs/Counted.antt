-- How many ticks were taken, of which so many by each processor, before each record.
use Rattle.std.proofs.Common.{◌≡◌, ◌∙◌, ℕ, zero, suc, ◌+◌, ◌*◌, ◌%◌, ◌<◌, ◌≤◌, inl, inr, false, List, [], ◌∷◌, ◌++◌, length, take, Some, refl, ap, sym, subst, arith}
use Rattle.std.specs.Prelude.{slice_get}
use Rattle.std.proofs.lemmas.Bool.{leb-false}
use Rattle.std.proofs.lemmas.List.{take_more}
use Rattle.std.proofs.lemmas.Option.{slice_get_cases}
use Rattle.fmp_codes.specs.declared.numbers.Proc.{Proc}
use Rattle.fmp_codes.specs.declared.records.Event.{Event}
use Rattle.fmp_codes.specs.declared.records.Event.TheVariants as event
use Rattle.fmp_codes.specs.declared.records.Record.{Record}
use Rattle.fmp_setup.specs.Setup.{Setup}
use Rattle.fmp_setup.specs.Valid.{IsValid}
use Rattle.fmp_smp_histories.specs.Counted.{taken}
use Rattle.fmp_smp.specs.Rounds.{Rounds, first_ticked, ticked, rounds_of, ticks_taken, IsDue, TicksInTurn}
use Rattle.fmp_smp.proofs.Following.{IsMade, Counts, CountsOn, counts_of, counts_on}
use Rattle.fmp_smp.proofs.Shares.{share, share_hit, share_within}
use Rattle.fmp_smp.proofs.Wholes.{AreRounds, are_rounds}

-- an event whose ticks are due
made_so : (rs : Rounds) (e : Event) → ((p : Proc) → e ≡ event.Tick p → IsDue rs p) → IsMade rs e
made_so rs (event.Call p call) due = inl (refl, λ n. refl)
made_so rs (event.Tick p) due = let is = due p refl in inr (ap event.Tick is.1, is.0)
made_so rs (event.Ipi p) due = inl (refl, λ n. refl)

module _ (c : Setup) (ticks : ℕ) (h : List Record) (turned : TicksInTurn c ticks h) where
  abbrev rounds : ℕ → Rounds
  rounds n = rounds_of c ticks (ticks_taken (take n h))

  due_at : (n : ℕ) (r : Record) (p : Proc) → slice_get h n ≡ Some r → r.event ≡ event.Tick p → IsDue (rounds n) p
  unfolding TicksInTurn
  due_at n r p at is = turned n r p at is

  pub counted : (n : ℕ) → n ≤ length h → CountsOn c ticks (take n h) (rounds n)
  unfolding ticks_taken share
  counted zero within = (refl, omega arith, λ n. refl)
  counted (suc n) within = elim ((slice_get_cases h n).1) [
    | inl here ↦
        let r = here.0 in
        let longer : take (n + 1) h ≡ take n h ++ r ∷ [] = take_more h n r here.1 ∙ ap (λ (x : Record). take n h ++ x ∷ []) here.3 in
        let counts : Counts (rounds n) r = counts_of (rounds n) r.event r refl (made_so (rounds n) r.event (λ p is. due_at n r p here.2 is)) in
        let on = counts_on c ticks (take n h) r (counted n (omega (arith, within))) counts in
        let more : CountsOn c ticks (take (n + 1) h) (rounds (n + 1)) =
        subst (λ (front : List Record). CountsOn c ticks front (rounds_of c ticks (ticks_taken front))) (sym longer) (refl, on.1, on.2) in
        let next : n + 1 ≡ suc n = omega arith in
        subst (λ (k : ℕ). CountsOn c ticks (take k h) (rounds k)) next more
    | inr past ↦ absurd (omega (arith, past.0, within))
  ]

  -- a processor whose tick is due has a tick left
  module _ (valid : IsValid c) where
    pub left : (n : ℕ) (r : Record) (p : Proc) → n ≤ length h → slice_get h n ≡ Some r → r.event ≡ event.Tick p → taken p.number (take n h) < ticks
    left n r p within at is =
        let due = due_at n r p at is in
        let g = ticks_taken (take n h) in
        let first = first_ticked c.timer in
        let count = ticked c.timer c.processors in
        let fit : AreRounds c.timer c.processors = are_rounds c.timer c.processors valid.has_processors valid.few_processors in
        let going : g < ticks * count = leb-false (ticks * count) g due.0 in
        let next = share_hit first count p.number g (ap (λ (q : Proc). q.number) (sym due.1)) in
        let most = share_within first count fit.0 fit.1 fit.2 p.number (suc g) ticks (omega (arith, going)) in
        let has = (counted n within).2 p.number in
        omega (arith, next, most, has)

    pub due : (n : ℕ) (r : Record) (p : Proc) → slice_get h n ≡ Some r → r.event ≡ event.Tick p → IsDue (rounds n) p
    due n r p at is = due_at n r p at is
