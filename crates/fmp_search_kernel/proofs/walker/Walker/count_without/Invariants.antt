use Rattle.std.proofs.Common.{◌≡◌, length}
use Rattle.fmp_search_kernel.specs.Walked.{origin_of}
use Rattle.fmp_search_kernel.specs.Weights.{TellsKey}
use Rattle.fmp_search_kernel.proofs.Weighed.{AreGathered}
use Rattle.fmp_search_kernel.proofs.walker.Walker.count_without.Given as goal

abbrev pub invariant-loop-key : goal.invariant-loop-key
invariant-loop-key l = record {
  gathered : AreGathered (TellsKey (origin_of l.fn.self.place) l.fn.tables l.fn.spot) l.fn.keys l.key-index l.kept;
  same : l.tables ≡ l.fn.tables;
  parts : length l.parts ≡ length l.fn.parts;
  words : length l.words ≡ length l.fn.words;
}
