use Rattle.std.proofs.Common.{take}
use Rattle.fmp_cli.specs.Parts.{AddsParts}
use Rattle.fmp_cli.proofs.parts.with_parts.Given as goal

abbrev pub invariant-loop-part : goal.invariant-loop-part
invariant-loop-part l = AddsParts l.initial.command (take l.part-index l.parts) l.command
