use Rattle.std.proofs.Common.{◌≡◌, ◌⊎◌, inl, inr, ◌<◌, ◌+◌, ◌≤◌, ℕ, true, false, List, Option, Some, ◌∙◌, sym, subst, arith}
use Rattle.std.specs.Prelude.{slice_get}
use Rattle.std.proofs.Math.Nat.{eq-or-lt_of_le}
use Rattle.std.proofs.lemmas.Option.{same_Some, slice_get_within}
use Rattle.fmp_search.specs.declared.edges.Edge.{Edge}
use Rattle.fmp_search.specs.declared.staying.Run.{Run}
use Rattle.fmp_search.specs.Trees.{found_at}
use Rattle.fmp_search.specs.Forever.{is_bit, mark_at}
use Rattle.fmp_search.specs.Stays.{HasWithin, IsRight}
use Rattle.fmp_search.proofs.staying.entered.Goals as goal

-- what is so of the edges below a number, and of the one of that number
next_too :
    (edges : List Edge) (n : ℕ) (one : Edge) (Fact : Edge → Type 0) → slice_get edges n ≡ Some one → ((k : ℕ) (e : Edge) → k < n → slice_get edges k ≡ Some e → Fact e) → Fact one →
    (k : ℕ) (e : Edge) → (k ≡ n) ⊎ (k < n) → slice_get edges k ≡ Some e → Fact e
next_too edges n one Fact is_one earlier last k e (inl is) get =
    subst (λ (x : Edge). Fact x) (same_Some one e (sym is_one ∙ subst (λ m. slice_get edges m ≡ Some e) is get)) last
next_too edges n one Fact is_one earlier last k e (inr low) get = earlier k e low get

one_of : {P : Type 0} (after : P → ℕ → Option P) (passes : P → ℕ → ℕ) (q : P) (turns tests : ℕ) (a b o : Option Run) → (o ≡ a) ⊎ (o ≡ b) → IsRight after passes q turns tests a → IsRight after passes q turns tests b →
    IsRight after passes q turns tests o
one_of after passes q turns tests a b o (inl is) first second = subst (λ (x : Option Run). IsRight after passes q turns tests x) (sym is) first
one_of after passes q turns tests a b o (inr is) first second = subst (λ (x : Option Run). IsRight after passes q turns tests x) (sym is) second

pub run_over-requires-clause-sure : goal.run_over-requires-clause-sure
run_over-requires-clause-sure g c = (c.requires.sure.0 c.loop-at.at _ c.get.ensures, c.requires.sure.1 c.loop-at.at _ c.get.ensures)

pub loop-at-preserved : goal.loop-at-preserved
loop-at-preserved g c =
    let after = g.W.Space.after in
    let q = g.W.Space.origin c.args.walker.now in
    let inv = c.loop-at.invariant in
    let new = c.better-best.result in
    let Fact = λ (e : Edge). is_bit e.passes c.args.test ≡ true → mark_at c.args.marks.now e.to ≡ false → HasWithin new ((found_at after q c.args.nodes.now e.from).depth + 1) in
    record {
      right = one_of after g.W.Space.passes q c.args.turns (c.args.test + 1) c.loop-at.best c.in_ok-over.over new c.better-best.ensures.one inv.right c.in_ok-over.ensures.right;
      kept = λ n h. c.better-best.ensures.kept n (inv.kept n h);
      within = λ k e low get. next_too c.args.edges.now c.loop-at.at c.get.result Fact c.get.ensures
          (λ k e low get is free. c.better-best.ensures.kept _ (inv.within k e low get is free))
          (λ is free. c.better-best.ensures.within _ (c.in_ok-over.ensures.within is free))
          k e (let le : k ≤ c.loop-at.at = omega (arith, low) in eq-or-lt_of_le le) get;
    }

pub returns-clause-within : goal.returns-clause-within
returns-clause-within g c k e get is free =
    let lt = slice_get_within c.args.edges.now k e get in
    let len = c.len-at-end.ensures in
    let past = c.loop-at-test.false in
    let low : k < c.loop-at.at = omega (arith, lt, past, len) in
    c.loop-at.invariant.within k e low get is free
