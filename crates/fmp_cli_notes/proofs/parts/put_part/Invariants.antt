use Rattle.std.proofs.Common.{◌≡◌, take}
use Rattle.std.specs.List.{fold}
use Rattle.fmp_names.specs.Names.{texts}
use Rattle.fmp_cli_notes.specs.Parts.{with_item}
use Rattle.fmp_cli_notes.proofs.parts.put_part.Given as goal

-- those so far
abbrev pub invariant-loop-item : goal.invariant-loop-item
invariant-loop-item l = texts l.list ≡ fold with_item (texts l.fn.list) (take l.item-index l.item-items)
