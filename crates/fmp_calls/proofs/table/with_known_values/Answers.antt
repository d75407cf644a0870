use Rattle.std.proofs.Common.{◌∙◌, ap}
use Rattle.fmp_calls.specs.Table.{line_of}
use Rattle.fmp_calls.proofs.Matched.{call_of-four}
use Rattle.fmp_calls.proofs.table.with_known_values.Goals as goal

pub returns-clause-same : goal.returns-clause-same
returns-clause-same c =
    call_of-four c.args.call _ c.args.values.now c.told-values (c.made_of.ensures ∙ ap (λ l. (line_of c.args.call).make l) c.as_slice.ensures)
