use Rattle.std.proofs.Common.{◌-◌, []}
use Rattle.std.proofs.lemmas.Result.{IfOk-weaker}
use Rattle.fmp_search_orders.specs.Made.{watched_number}
use Rattle.fmp_search_orders.specs.Places.{origin}
use Rattle.fmp_search_orders.specs.Watched.{watched, watched_after}
use Rattle.fmp_run_explore.proofs.Called.{says_calls}
use Rattle.fmp_run_forever.proofs.Known.{not_known}
use Rattle.fmp_run_forever.proofs.searching.calls_met.Goals as goal

pub returns-clause-made : goal.returns-clause-made
returns-clause-made g c =
    let config = c.args.orders.now.config.now in
    let scripts = c.args.orders.now.scripts.now in
    let rules = c.args.orders.now.rules in
    let q = watched c.args.lasting.now (origin config scripts rules []) in
    let law = (c.made_answer.ensures config scripts rules c.names-names.ensures.valid).watched_so c.args.lasting.now in
    IfOk-weaker c.search_calls.result _ _ (λ o met. says_calls watched_after watched_number q config scripts rules c.args.bounds.turns.count law o met) c.search_calls.ensures.met

pub returns-clause-none : goal.returns-clause-none
returns-clause-none g c =
    let config = c.args.orders.now.config.now in
    let scripts = c.args.orders.now.scripts.now in
    let rules = c.args.orders.now.rules in
    let room = c.args.bounds.places.count - 1 in
    let over = g.P.Progress.over c.search_calls.new.progress in
    IfOk-weaker c.search_calls.result _ _ (λ o left none. not_known config scripts rules c.args.lasting.now c.args.bounds.turns.count room over (left none)) c.search_calls.ensures.none
