use Rattle.std.proofs.Common.{◌∙◌, ◌-◌, ℕ, List, ap, subst}
use Rattle.fmp_names.specs.Names.{AreValid}
use Rattle.fmp_trace.specs.Lines.{lines_from}
use Rattle.fmp_search.specs.declared.guided.Choice.{Choice}
use Rattle.fmp_search.specs.Guides.{SaysAlong, NoneEverAlong, NoneWithinAlong, IsShortestAlong, guide, guided_after}
use Rattle.fmp_search.specs.Answers.{StopsAt}
use Rattle.fmp_search_orders.specs.Laws.{is_seen}
use Rattle.fmp_search_orders.specs.Places.{after, origin, records}
use Rattle.fmp_run_explore_from.proofs.Found.{shown_from}
use Rattle.fmp_run_explore_from.proofs.searching.report_from.Goals as goal

pub returns-in_ok-text-in-Found-clause-finds : goal.returns-in_ok-text-in-Found-clause-finds
returns-in_ok-text-in-Found-clause-finds g c = λ begun order chosen.
    let config = c.args.orders.now.config.now in
    let begin = origin config c.args.orders.now.scripts.now c.args.orders.now.rules c.args.question.now in
    let law = c.begun_answer.ensures config c.args.orders.now.scripts.now c.args.orders.now.rules c.args.question.now begun c.names-names.ensures.valid order in
    let says = subst (λ a. SaysAlong after is_seen begin c.args.choices.now c.args.bounds.turns.count (c.args.bounds.places.count - 1) a) c.in-Found.is c.in_ok-answer.ensures.says in
    let along = subst (λ (cs : List Choice). IsShortestAlong after is_seen begin cs c.in-Found.steps.items) chosen says.1 in
    shown_from config c.args.orders.now.scripts.now c.args.orders.now.rules c.args.question.now begun c.in-Found.steps.items along c.args.bounds.turns.count c.in_ok-text-in-Found.text.items
    c.names-names.ensures.valid (subst AreValid c.names-names.ensures.value c.validity.ensures) c.requires.in_bits c.args.bounds.turns.few law says.0
    (c.in_ok-text-in-Found.ensures ∙ ap (λ (steps : List ℕ). lines_from config.names 1 (records begin steps)) c.deref.ensures.value)

pub returns-in_ok-never-in-Never-clause-finds : goal.returns-in_ok-never-in-Never-clause-finds
returns-in_ok-never-in-Never-clause-finds g c = λ begun order chosen.
    let begin = origin c.args.orders.now.config.now c.args.orders.now.scripts.now c.args.orders.now.rules c.args.question.now in
    let law = c.begun_answer.ensures c.args.orders.now.config.now c.args.orders.now.scripts.now c.args.orders.now.rules c.args.question.now begun c.names-names.ensures.valid order in
    let says = subst (λ a. SaysAlong after is_seen begin c.args.choices.now c.args.bounds.turns.count (c.args.bounds.places.count - 1) a) c.in-Never.is c.in_ok-answer.ensures.says in
    (law.never (subst (λ (cs : List Choice). NoneEverAlong after is_seen begin cs) chosen says), c.in_ok-never-in-Never.ensures)

pub returns-in_ok-not_within-in-NotWithin-clause-finds : goal.returns-in_ok-not_within-in-NotWithin-clause-finds
returns-in_ok-not_within-in-NotWithin-clause-finds g c = λ begun order chosen.
    let begin = origin c.args.orders.now.config.now c.args.orders.now.scripts.now c.args.orders.now.rules c.args.question.now in
    let law = c.begun_answer.ensures c.args.orders.now.config.now c.args.orders.now.scripts.now c.args.orders.now.rules c.args.question.now begun c.names-names.ensures.valid order in
    let says = subst (λ a. SaysAlong after is_seen begin c.args.choices.now c.args.bounds.turns.count (c.args.bounds.places.count - 1) a) c.in-NotWithin.is c.in_ok-answer.ensures.says in
    let n = c.in-NotWithin.turns in (
      law.within n (subst (λ (cs : List Choice). NoneWithinAlong after is_seen begin cs n) chosen says.0),
      c.in_ok-not_within-in-NotWithin.ensures,
      subst (λ (cs : List Choice). StopsAt (guided_after after) (guide cs begin) c.args.bounds.turns.count (c.args.bounds.places.count - 1) n) chosen says.1,
    )

pub returns-in_ok-not_within-in-Wanting-clause-finds : goal.returns-in_ok-not_within-in-Wanting-clause-finds
returns-in_ok-not_within-in-Wanting-clause-finds g c = λ begun order chosen.
    let begin = origin c.args.orders.now.config.now c.args.orders.now.scripts.now c.args.orders.now.rules c.args.question.now in
    let law = c.begun_answer.ensures c.args.orders.now.config.now c.args.orders.now.scripts.now c.args.orders.now.rules c.args.question.now begun c.names-names.ensures.valid order in
    let says = subst (λ a. SaysAlong after is_seen begin c.args.choices.now c.args.bounds.turns.count (c.args.bounds.places.count - 1) a) c.in-Wanting.is c.in_ok-answer.ensures.says in
    let n = c.in-Wanting.turns in (
      says.0,
      law.within n (subst (λ (cs : List Choice). NoneWithinAlong after is_seen begin cs n) chosen says.1),
      c.in_ok-not_within-in-Wanting.ensures,
    )

pub returns-in_ok-not_within-in-Ended-clause-finds : goal.returns-in_ok-not_within-in-Ended-clause-finds
returns-in_ok-not_within-in-Ended-clause-finds g c = λ begun order chosen.
    let begin = origin c.args.orders.now.config.now c.args.orders.now.scripts.now c.args.orders.now.rules c.args.question.now in
    let law = c.begun_answer.ensures c.args.orders.now.config.now c.args.orders.now.scripts.now c.args.orders.now.rules c.args.question.now begun c.names-names.ensures.valid order in
    let says = subst (λ a. SaysAlong after is_seen begin c.args.choices.now c.args.bounds.turns.count (c.args.bounds.places.count - 1) a) c.in-Ended.is c.in_ok-answer.ensures.says in
    let n = c.in-Ended.turns in (
      says.0,
      law.within n (subst (λ (cs : List Choice). NoneWithinAlong after is_seen begin cs n) chosen says.1),
      c.in_ok-not_within-in-Ended.ensures,
    )
