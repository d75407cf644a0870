use Rattle.std.proofs.Common.{◌≡◌, ◌<◌, ℕ, false, length}
use Rattle.std.specs.Prelude.{slice_index_or}
use Rattle.fmp_search_kernel.specs.Seen.{seen_of}
use Rattle.fmp_search_shrink.specs.Seen.{is_seen}
use Rattle.fmp_search_shrink.proofs.showing.all_seen.Given as goal

-- the numbers so far
abbrev pub invariant-loop-at : goal.invariant-loop-at
invariant-loop-at l = record {
  so_far : (n : ℕ) → n < l.at → slice_index_or l.next n false ≡ is_seen l.question (seen_of l.event) l.numbers n;
  room : length l.next ≡ 256;
}
