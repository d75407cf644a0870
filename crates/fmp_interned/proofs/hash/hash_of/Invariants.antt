use Rattle.std.proofs.Common.{◌≡◌, drop}
use Rattle.fmp_interned.specs.Hashes.{mixed_all}
use Rattle.fmp_interned.proofs.hash.hash_of.Given as goal

-- with what is left it becomes what it is to be
abbrev pub invariant-loop-word : goal.invariant-loop-word
invariant-loop-word l = mixed_all (drop l.word-index l.words) l.sum ≡ mixed_all l.words l.initial.sum
