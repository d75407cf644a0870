use Rattle.std.proofs.Common.{◌≡◌, ◌<◌, ◌||◌, Bool, true, false, List, refl, sym, subst, ◌∙◌, arith, rules}
use Rattle.fmp_search.specs.Spreads.{unmarked, AreWithin}
use Rattle.fmp_search.proofs.Passing.{neither, passed_more, due_more}
use Rattle.fmp_search.proofs.marks.spread_once.Goals as goal

-- fewer are unmarked where one pass or the other has marked one
fewer : (a b : Bool) (first old new : List Bool) → (a ≡ false → old ≡ first) → (a ≡ true → unmarked old < unmarked first) → (b ≡ false → new ≡ old) →
    (b ≡ true → unmarked new < unmarked old) → (a || b) ≡ true → unmarked new < unmarked first
fewer true true first old new same less same' less' h = let x = less refl in let y = less' refl in omega (arith, x, y)
fewer true false first old new same less same' less' h = subst (λ (m : List Bool). unmarked m < unmarked first) (sym (same' refl)) (less refl)
fewer false true first old new same less same' less' h = subst (λ (m : List Bool). unmarked new < unmarked m) (same refl) (less' refl)
fewer false false first old new same less same' less' h = absurd (search rules)

pub loop-at-preserved : goal.loop-at-preserved
loop-at-preserved c =
    let before = c.loop-at.invariant in
    let now = c.pass_back-changed.ensures in
    let one = c.get-edge.result in
    let is_one = c.get-edge.ensures in record {
      long = now.long ∙ before.long;
      kept = λ i marked. now.kept i (before.kept i marked);
      same = λ h. let both = neither c.loop-at.changed c.pass_back-changed.result h in now.same both.1 ∙ before.same both.0;
      passed = λ h. let both = neither c.loop-at.changed c.pass_back-changed.result h in
          passed_more c.args.edges.now c.loop-at.marks c.pass_back-changed.new.marks c.len-count.result c.loop-at.at one is_one (now.same both.1) (before.passed both.0) now.passed;
      fewer = fewer c.loop-at.changed c.pass_back-changed.result c.args.marks.now c.loop-at.marks c.pass_back-changed.new.marks before.same before.fewer now.same now.fewer;
      due = λ start first.
          due_more c.args.edges.now start c.loop-at.marks c.pass_back-changed.new.marks _ one is_one
          (subst (λ n. AreWithin c.args.edges.now n) (sym before.long) c.requires.within) now.long (before.due start first) now.due;
    }
