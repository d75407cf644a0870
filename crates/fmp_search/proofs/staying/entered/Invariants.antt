use Rattle.std.proofs.Common.{◌≡◌, ◌<◌, ◌+◌, ℕ, true, false, Some}
use Rattle.std.specs.Prelude.{slice_get}
use Rattle.fmp_search.specs.declared.edges.Edge.{Edge}
use Rattle.fmp_search.specs.Trees.{found_at}
use Rattle.fmp_search.specs.Forever.{is_bit, mark_at}
use Rattle.fmp_search.specs.Stays.{HasWithin, IsRight}
use Rattle.fmp_search.proofs.staying.entered.Given as goal

abbrev pub invariant-loop-at : goal.invariant-loop-at
invariant-loop-at g l = record {
  right : IsRight g.W.Space.after g.W.Space.passes (g.W.Space.origin l.fn.walker) l.fn.turns (l.fn.test + 1) l.best;
  kept : (n : ℕ) → HasWithin l.fn.before n → HasWithin l.best n;
  within : (k : ℕ) (e : Edge) → k < l.at → slice_get l.fn.edges k ≡ Some e → is_bit e.passes l.fn.test ≡ true → mark_at l.fn.marks e.to ≡ false →
      HasWithin l.best ((found_at g.W.Space.after (g.W.Space.origin l.fn.walker) l.fn.nodes e.from).depth + 1);
}
