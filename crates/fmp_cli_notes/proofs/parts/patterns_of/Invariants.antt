use Rattle.std.proofs.Common.{◌≡◌, [], take}
use Rattle.std.specs.List.{fold}
use Rattle.fmp_names.specs.Names.{texts}
use Rattle.fmp_cli_notes.specs.Parts.{with_part}
use Rattle.fmp_cli_notes.proofs.parts.patterns_of.Given as goal

-- those so far
abbrev pub invariant-loop-part : goal.invariant-loop-part
invariant-loop-part l = texts l.list ≡ fold with_part [] (take l.part-index l.part-items)
