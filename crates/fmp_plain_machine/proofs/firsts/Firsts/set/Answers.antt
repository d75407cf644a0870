use Rattle.std.proofs.Common.{List, Option, ap, set, ◌∙◌}
use Rattle.fmp_codes.specs.declared.numbers.Task.{Task}
use Rattle.fmp_plain_machine.proofs.FirstNumbers.{number_set}
use Rattle.fmp_plain_machine.proofs.firsts.Firsts.set.Goals as goal

pub returns : goal.returns
returns c =
    number_set c.self.inside.numbers c.args.index c.number_of.result c.args.first c.number_of.ensures.value
    ∙ ap (λ (tops : List (Option Task)). set tops c.args.index c.args.first) c.self.view_is
