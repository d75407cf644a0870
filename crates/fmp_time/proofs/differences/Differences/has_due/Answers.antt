use Rattle.std.proofs.Common.{◌≡◌, ℕ, false, Some, nat_eq, sym, ap, ◌∙◌, arith, ⊎_elim}
use Rattle.std.specs.Option.{option_eq}
use Rattle.std.proofs.lemmas.Bool.{cases_eq}
use Rattle.fmp_time.specs.Differences.{entries_at, ticks_in}
use Rattle.fmp_time.proofs.Dues.{begins_over, all_later, none_over}
use Rattle.fmp_time.proofs.differences.Differences.has_due.Goals as goal

pub loop-list-preserved : goal.loop-list-preserved
loop-list-preserved c =
    let q = c.args.self.now in
    let i = c.loop-list.list in
    let later : option_eq nat_eq c.next.result (Some 0) ≡ false = sym c.eq.ensures ∙ c.if-eq.false in
    record {
      later = λ j l k m e. ⊎_elim
          (λ (f : j ≡ i). all_later (entries_at q i) c.next.result c.next.ensures.value later c.next.ensures.least k m (ap (λ (n : ℕ). ticks_in (entries_at c.args.self.now n) k) (sym f) ∙ e))
          (λ (f : j ≡ i → ⊥). c.loop-list.invariant.later j (omega (arith, l, f)) k m e)
          (cases_eq j i);
      count = λ l. c.next.ensures.disjoint.count;
    }

pub returns-then-eq-clause-some : goal.returns-then-eq-clause-some
returns-then-eq-clause-some c = λ h.
    begins_over c.args.self.now c.loop-list.list c.next.result c.next.ensures.disjoint c.loop-list-test.true c.next.ensures.value (sym c.eq.ensures ∙ c.if-eq.true)

pub returns-clause-none : goal.returns-clause-none
returns-clause-none c = λ h k.
    none_over 0 c.args.self.now k (λ j l. c.loop-list.invariant.later j (let eight = c.loop-list.invariant.count (omega arith) in omega (arith, l, eight, c.loop-list-test.false)) k)
