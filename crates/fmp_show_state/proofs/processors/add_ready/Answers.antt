use Rattle.std.proofs.Common.{◌++◌, ◌∙◌, ap, sym, List}
use Rattle.std.proofs.lemmas.List.{append-nil}
use Rattle.fmp_codes.specs.declared.numbers.Task.{Task}
use Rattle.fmp_show_state.specs.States.{without_running}
use Rattle.fmp_show_state.proofs.processors.add_ready.Goals as goal

pub returns-then-not-may_have_ready : goal.returns-then-not-may_have_ready
returns-then-not-may_have_ready g c =
    sym (ap (λ (ts : List Task). c.args.others.now.items ++ without_running c.args.running ts) (c.may_have_ready.ensures c.if-not-may_have_ready.true) ∙ append-nil c.args.others.now.items)
