use Rattle.std.proofs.Common.{◌∙◌, ◌-◌, ℕ, List, ap, subst}
use Rattle.fmp_names.specs.Names.{AreValid}
use Rattle.fmp_trace.specs.Lines.{lines_from}
use Rattle.fmp_search.specs.Answers.{Says}
use Rattle.fmp_search.specs.declared.exploring.Answer.{Answer}
use Rattle.fmp_search_orders.specs.Laws.{is_seen}
use Rattle.fmp_search_orders.specs.Places.{after, origin, records}
use Rattle.fmp_run_explore.proofs.Found.{shown}
use Rattle.fmp_run_explore.proofs.searching.found.Goals as goal
use Rattle.fmp_run_explore.proofs.searching.found.Goals.{in-Found+in_ok-trace_along-in-Found, in-Never+in_ok-never-in-Never, in-NotWithin+in_ok-not_within-in-NotWithin, in-Wanting+in_ok-not_within-in-Wanting, in-Ended+in_ok-not_within-in-Ended}

pub returns-clause-finds : goal.returns-clause-finds
returns-clause-finds g c =
    let config = c.args.orders.now.config.now in
    let scripts = c.args.orders.now.scripts.now in
    let rules = c.args.orders.now.rules in
    let question = c.args.question.now in
    let begin = origin config scripts rules question in
    let law = c.places_answer.ensures config scripts rules question c.names-names.ensures.valid in
    let turns = c.args.bounds.turns.count in
    let Is : Answer → Type 0 = λ a. Says after is_seen begin turns (c.args.bounds.places.count - 1) a in
    let answers = c.in_ok-answer.ensures.says in
    elim c.match-answer.branch [
      | in-Found+in_ok-trace_along-in-Found w ↦
          let says = subst Is w.in-Found.is answers in
          rw (w.finding-is) (shown config scripts rules question w.in-Found.steps.items says.1 turns w.in_ok-trace_along-in-Found.field-0.items
          c.names-names.ensures.valid (subst AreValid c.names-names.ensures.value c.validity.ensures) c.requires.in_bits c.args.bounds.turns.few law says.0
          (w.in_ok-trace_along-in-Found.ensures ∙ ap (λ (steps : List ℕ). lines_from config.names 1 (records begin steps)) w.deref.ensures.value))
      | in-Never+in_ok-never-in-Never w ↦ rw (w.finding-is) (law.never (subst Is w.in-Never.is answers), w.in_ok-never-in-Never.ensures)
      | in-NotWithin+in_ok-not_within-in-NotWithin w ↦
          let says = subst Is w.in-NotWithin.is answers in
          rw (w.finding-is) (law.within w.in-NotWithin.turns says.0, w.in_ok-not_within-in-NotWithin.ensures, says.1)
      | in-Wanting+in_ok-not_within-in-Wanting w ↦
          let says = subst Is w.in-Wanting.is answers in
          rw (w.finding-is) (says.0, law.within w.in-Wanting.turns says.1, w.in_ok-not_within-in-Wanting.ensures)
      | in-Ended+in_ok-not_within-in-Ended w ↦
          let says = subst Is w.in-Ended.is answers in
          rw (w.finding-is) (says.0, law.within w.in-Ended.turns says.1, w.in_ok-not_within-in-Ended.ensures)
    ]
