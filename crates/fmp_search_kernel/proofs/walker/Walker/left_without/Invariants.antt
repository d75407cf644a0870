use Rattle.std.proofs.Common.{◌≡◌, ℕ, ◌+◌, ◌<◌, length}
use Rattle.std.specs.Prelude.{slice_index}
use Rattle.fmp_search_kernel.specs.Walked.{origin_of}
use Rattle.fmp_search_kernel.specs.Weights.{spot_of, AreLeft, TellsKey}
use Rattle.fmp_search_kernel.proofs.walker.Walker.left_without.Given as goal

abbrev pub invariant-loop-thing : goal.invariant-loop-thing
invariant-loop-thing l =
    let o = origin_of l.fn.self.place in record {
      same : l.tables ≡ l.fn.tables;
      parts : length l.parts ≡ l.things + 3;
      words : length l.words ≡ l.count;
      all : length l.left.items ≡ l.thing;
      are : (k : ℕ) → k < l.thing → AreLeft (TellsKey o l.fn.tables (spot_of o.config k)) l.fn.keys (slice_index l.left.items k);
    }
