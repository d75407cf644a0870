use Rattle.std.proofs.Common.{◌≡◌, length, take}
use Rattle.fmp_mpf.specs.Marks.{marks}
use Rattle.fmp_mpf.proofs.marks.all_marks.Given as goal

-- the marks so far
abbrev pub invariant-loop-block : goal.invariant-loop-block
invariant-loop-block l = record {
  so_far : take l.block l.all ≡ take l.block (marks l.word);
  room : length l.all ≡ 64;
}
