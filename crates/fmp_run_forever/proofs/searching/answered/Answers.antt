use Rattle.std.proofs.Common.{[]}
use Rattle.std.proofs.lemmas.Result.{IfOk-weaker}
use Rattle.fmp_search_orders.specs.Made.{watched_number}
use Rattle.fmp_search_orders.specs.Places.{origin}
use Rattle.fmp_search_orders.specs.Watched.{watched, watched_after}
use Rattle.fmp_run_explore.proofs.Called.{says_calls}
use Rattle.fmp_run_forever.proofs.searching.answered.Goals as goal

pub returns-clause-calls : goal.returns-clause-calls
returns-clause-calls g c =
    let config = c.args.orders.now.config.now in
    let scripts = c.args.orders.now.scripts.now in
    let rules = c.args.orders.now.rules in
    let q = watched c.args.lasting.now (origin config scripts rules []) in
    let law = (c.made_answer.ensures config scripts rules c.names-names.ensures.valid).watched_so c.args.lasting.now in
    IfOk-weaker c.search_lasting.result _ _ (λ r met. says_calls watched_after watched_number q config scripts rules c.args.bounds.turns.count law r.2 met) c.search_lasting.ensures.met
