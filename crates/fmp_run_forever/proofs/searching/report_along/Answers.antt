use Rattle.std.proofs.Common.{◌≡◌, ◌∙◌, ◌-◌, true, List, ap, subst, sym}
use Rattle.std.specs.Prelude.{is_some}
use Rattle.fmp_names.specs.Names.{AreValid}
use Rattle.fmp_trace.specs.Lines.{lines_from}
use Rattle.fmp_search.specs.Runs.{run}
use Rattle.fmp_search_pattern.specs.declared.question.Step.{Step}
use Rattle.fmp_search_orders.specs.Places.{after, origin, records}
use Rattle.fmp_run_forever.proofs.Found.{staying, report}
use Rattle.fmp_run_forever.proofs.searching.report_along.Goals as goal

pub trace_along-requires-clause-leads : goal.trace_along-requires-clause-leads
trace_along-requires-clause-leads c =
    let law = c.watched_answer.ensures c.args.orders.now.config.now c.args.orders.now.scripts.now c.args.orders.now.rules c.args._lasting.now c.names.ensures.valid in
    subst (λ (q : List Step). is_some (run after (origin c.args.orders.now.config.now c.args.orders.now.scripts.now c.args.orders.now.rules q) c.args.steps.now) ≡ true) (sym c.requires.none)
    (law.made c.args.test c.args.steps.now c.requires.ends)

pub returns-clause-finds : goal.returns-clause-finds
returns-clause-finds c =
    let config = c.args.orders.now.config.now in
    let scripts = c.args.orders.now.scripts.now in
    let rules = c.args.orders.now.rules in
    let lasting = c.args._lasting.now in
    let steps = c.args.steps.now in
    let text = c.in_ok-text.text.items in
    let law = c.watched_answer.ensures config scripts rules lasting c.names.ensures.valid in
    let is = c.in_ok-text.ensures ∙ ap (λ (q : List Step). lines_from config.names 1 (records (origin config scripts rules q) steps)) c.requires.none in
    let turns = c.args._bounds.turns.count in
    let so = staying config scripts rules lasting c.args.test steps c.requires.is_one c.requires.ends turns text c.names.ensures.valid (subst AreValid c.names.ensures.value c.validity.ensures) c.requires.in_bits law
    c.requires.few c.args._bounds.turns.few is in
    report config scripts rules lasting c.args.test steps c.requires.is_one c.requires.ends turns (c.args._bounds.places.count - 1) text c.args.shortest c.staying_of-staying.result so c.requires.least c.staying_of-staying.ensures
