use Rattle.std.proofs.Common.{sym, ◌∙◌}
use Rattle.fmp_search_orders.specs.Made.{number_at}
use Rattle.fmp_search_orders.specs.Places.{after, origin}
use Rattle.fmp_run_explore.proofs.Called.{says_calls}
use Rattle.fmp_run_explore.proofs.searching.calls_met.Goals as goal

pub returns-then-lets_pass-clause-says : goal.returns-then-lets_pass-clause-says
returns-then-lets_pass-clause-says c =
    let config = c.args.orders.now.config.now in
    let scripts = c.args.orders.now.scripts.now in
    let rules = c.args.orders.now.rules in
    let question = c.args.question.now in
    says_calls after number_at (origin config scripts rules question) config scripts rules c.args._bounds.turns.count
    ((c.made_answer.ensures config scripts rules c.names-names.ensures.valid).asked question (sym c.lets_pass.ensures ∙ c.if-lets_pass.true)) c.args.met c.requires
