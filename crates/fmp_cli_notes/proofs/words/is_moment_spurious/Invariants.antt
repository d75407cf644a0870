use Rattle.std.proofs.Common.{◌≡◌, false, take}
use Rattle.std.specs.List.{list_any}
use Rattle.fmp_cli_notes.specs.Words.{is_part_spurious}
use Rattle.fmp_cli_notes.proofs.words.is_moment_spurious.Given as goal

-- none of those so far has them
abbrev pub invariant-loop-part : goal.invariant-loop-part
invariant-loop-part l = list_any is_part_spurious (take l.part-index l.part-items) ≡ false
