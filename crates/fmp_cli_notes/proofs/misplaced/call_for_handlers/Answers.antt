use Rattle.std.proofs.Common.{◌∙◌, ◌++◌, ℕ, List, ap}
use Rattle.fmp_calls.specs.Table.{named}
use Rattle.fmp_cli_notes.specs.Misplaced.{for_handlers}
use Rattle.fmp_cli_notes.proofs.misplaced.call_for_handlers.Goals as goal

pub returns : goal.returns
unfolding for_handlers
returns c =
    c.find_call.ensures
    ∙ ap named (c.as_slice.ensures.value ∙ (c.in_ok-extend_from_slice.ensures.items ∙ ap (λ (xs : List ℕ). xs ++ c.args.name.now) c.in_ok-other.ensures.items))
