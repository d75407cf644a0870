use Rattle.std.proofs.Common.{None, arith}
use Rattle.std.proofs.lemmas.Grind.{common_steps}
use Rattle.fmp_text.proofs.Scanned.{next_line, next_skipped, said_as}
use Rattle.fmp_text.proofs.scan.first_said.Goals as goal

pub loop-line-preserved : goal.loop-line-preserved
loop-line-preserved c =
    let some = c.in-Some.ensures.says.some in
    let within = c.in-Some.ensures.says.within in
    record {
      within = grind (arith, common_steps, some, within);
      lines = grind (arith, common_steps, some, within);
      stands = next_skipped c.args.names.now c.args.before c.args.bytes.now _ c.loop-line.lines c.loop-line.used c.in-Some.line.length c.in-Some.line.said
          (grind (arith, common_steps)) c.in-Some.ensures.says (said_as _ c.in-Ok-None.field-0 None c.in-Ok-None.is (rw c.in-Ok-None.is at c.in-Ok-None.field-0-is)) c.loop-line.invariant.stands;
    }

pub returns-in_default-said-clause-gives : goal.returns-in_default-said-clause-gives
returns-in_default-said-clause-gives c =
    next_line c.args.names.now c.args.before c.args.bytes.now _ c.loop-line.lines c.loop-line.used c.in-Some.line.length _ (grind (arith, common_steps)) c.in-Some.ensures.says c.loop-line.invariant.stands

pub returns-in_default-said-2-clause-gives : goal.returns-in_default-said-2-clause-gives
returns-in_default-said-2-clause-gives c =
    next_line c.args.names.now c.args.before c.args.bytes.now _ c.loop-line.lines c.loop-line.used c.in-Some.line.length _ (grind (arith, common_steps)) c.in-Some.ensures.says c.loop-line.invariant.stands
