use Rattle.std.proofs.Common.{◌≡◌, ℕ, ◌+◌, Some, length}
use Rattle.std.specs.Prelude.{slice_get}
use Rattle.fmp_search.specs.Trees.{found_at}
use Rattle.fmp_search.proofs.first.places_of.Given as goal

abbrev pub invariant-loop-node : goal.invariant-loop-node
invariant-loop-node g l =
    let W = g.W.Space in
    let q = W.origin l.fn.walker in record {
      origin : W.origin l.walker ≡ q;
      long : length l.keys.items ≡ l.node-index + 1;
      each : (i key : ℕ) → slice_get l.keys.items i ≡ Some key → W.IsKey q l.tables key (found_at W.after q l.fn.nodes i).place;
    }
