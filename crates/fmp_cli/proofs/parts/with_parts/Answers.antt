use Rattle.std.proofs.Common.{List, arith, subst, sym}
use Rattle.std.proofs.lemmas.List.{take_more}
use Rattle.fmp_cli.specs.declared.parts.Part.{Part}
use Rattle.fmp_cli.specs.Parts.{AddsParts}
use Rattle.fmp_cli.proofs.Table.{adds_more}
use Rattle.fmp_cli.proofs.parts.with_parts.Goals as goal

pub loop-part-preserved : goal.loop-part-preserved
loop-part-preserved c =
    let more = adds_more _ _ _ _ _ _ c.loop-part.invariant c.in_ok-arg_of.ensures c.in_ok-command.ensures in
    subst (λ (ps : List Part). AddsParts c.args.empty ps c.in_ok-command.command) (sym (take_more c.args.parts.now c.loop-part.part-index _ (omega arith))) more
