use Rattle.std.proofs.Common.{subst}
use Rattle.fmp_names.specs.Names.{AreValid, NameLists}
use Rattle.fmp_trace_orders.specs.Lines.{AreLinesOf}
use Rattle.fmp_run_partial.proofs.Played.{few_lines}
use Rattle.fmp_run_partial.proofs.telling.lines_again.Goals as goal

pub returns-in-Ok-clause-few : goal.returns-in-Ok-clause-few
returns-in-Ok-clause-few c =
    let are = subst (λ (names : NameLists). AreLinesOf names c.args.text.now c.in-Ok.lines) c.names-names.ensures.value c.in-Ok.ensures.lines in
    few_lines c.args.config.now c.args.text.now c.in-Ok.lines are are.said are.read (subst AreValid c.names-names.ensures.value c.validity.ensures)
