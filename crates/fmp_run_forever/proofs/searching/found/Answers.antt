use Rattle.std.proofs.Common.{◌-◌, ℕ, Bool, false, List, [], length, subst, sym}
use Rattle.std.proofs.lemmas.Result.{IfOk-weaker}
use Rattle.fmp_setup.specs.Setup.{Setup}
use Rattle.fmp_text_scripts.specs.Scripts.{Steps}
use Rattle.fmp_search.specs.declared.staying.Stay.{Stay}
use Rattle.fmp_search.specs.Forever.{SaysForEver}
use Rattle.fmp_search.specs.Meeting.{IsMetBesideStay}
use Rattle.fmp_search_pattern.specs.Lasting.{Lasting}
use Rattle.fmp_search_orders.specs.declared.rules.Rules.{Rules}
use Rattle.fmp_search_orders.specs.Places.{origin}
use Rattle.fmp_search_orders.specs.Watched.{watched, watched_after, watched_passes}
use Rattle.fmp_run_forever.specs.Stayed.{IsLeast}
use Rattle.fmp_run_forever.proofs.Found.{least_of}
use Rattle.fmp_run_forever.proofs.searching.found.Goals as goal

-- what a search for what stays says
abbrev Says : ℕ → ℕ → Bool → Setup → List Steps → Rules → List Lasting → Stay → Type 0
Says turns room over c scripts rules lasting s =
    SaysForEver watched_after watched_passes (λ w. false) (watched lasting (origin c scripts rules [])) (length lasting) turns room over s

pub report_along-requires-clause-least : goal.report_along-requires-clause-least
report_along-requires-clause-least g c = λ _.
    let config = c.args.orders.now.config.now in
    let scripts = c.args.orders.now.scripts.now in
    let lasting = c.args.lasting.now in
    let law = c.watched_answer.ensures config scripts c.args.orders.now.rules lasting c.names.ensures.valid in
    let says = subst (λ s. Says c.args.bounds.turns.count (c.args.bounds.places.count - 1) (g.P.Progress.over c.answered.new.progress) config scripts c.args.orders.now.rules lasting s) c.in-Shortest.is c.in_ok-stay.ensures.says in
    subst (λ (steps : List ℕ). IsLeast config scripts c.args.orders.now.rules lasting (length steps)) (sym c.deref.ensures.value)
    (least_of config scripts c.args.orders.now.rules lasting (length c.in-Shortest.steps.items) law says.3)

pub returns-in-Never-clause-finds : goal.returns-in-Never-clause-finds
returns-in-Never-clause-finds g c =
    let config = c.args.orders.now.config.now in
    let scripts = c.args.orders.now.scripts.now in
    let lasting = c.args.lasting.now in
    let law = c.watched_answer.ensures config scripts c.args.orders.now.rules lasting c.names.ensures.valid in
    let says = subst (λ s. Says c.args.bounds.turns.count (c.args.bounds.places.count - 1) (g.P.Progress.over c.answered.new.progress) config scripts c.args.orders.now.rules lasting s) c.in-Never.is c.in_ok-stay.ensures.says in
    (λ k less. law.never k less (says k less), c.in_ok-never-in-Never.ensures)

pub returns-in-Shortest-clause-gone : goal.returns-in-Shortest-clause-gone
returns-in-Shortest-clause-gone g c = IfOk-weaker c.report_along.result _ _ (λ r gone. gone (g.P.Progress.over c.answered.new.progress)) c.report_along.ensures.gone

pub returns-in-Found-clause-gone : goal.returns-in-Found-clause-gone
returns-in-Found-clause-gone g c = IfOk-weaker c.report_along-in-Found.result _ _ (λ r gone. gone (g.P.Progress.over c.answered.new.progress)) c.report_along-in-Found.ensures.gone

pub returns-in-Never-clause-tells : goal.returns-in-Never-clause-tells
returns-in-Never-clause-tells g c =
    record { says = c.in_ok-stay.ensures.calls; beside = subst (λ s. IsMetBesideStay c.args.bounds.turns.count s c.in_ok-stay.met) c.in-Never.is c.in_ok-stay.ensures.beside }
