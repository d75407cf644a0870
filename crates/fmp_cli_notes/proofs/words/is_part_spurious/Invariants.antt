use Rattle.std.proofs.Common.{◌≡◌, false, take}
use Rattle.std.specs.List.{list_any}
use Rattle.fmp_cli_notes.specs.Words.{is_item_spurious}
use Rattle.fmp_cli_notes.proofs.words.is_part_spurious.Given as goal

-- none of those so far has them
abbrev pub invariant-loop-item : goal.invariant-loop-item
invariant-loop-item l = list_any is_item_spurious (take l.item-index l.item-items) ≡ false
