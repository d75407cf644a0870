use Rattle.std.proofs.Common.{◌*◌, ◌-◌, false, IfOk, [], List, length, ap, refl, subst}
use Rattle.std.specs.Prelude.{IfSome}
use Rattle.std.proofs.lemmas.Result.{IfOk-weaker}
use Rattle.fmp_search.specs.Meeting.{IsLeftOpen, Meets}
use Rattle.fmp_search.proofs.Viewed.{open_viewed}
use Rattle.fmp_search_orders.specs.Places.{after, origin}
use Rattle.fmp_search_pattern.specs.declared.question.Step.{Step}
use Rattle.fmp_search_walks.specs.Metered.{Metered, metered_after, metered_number}
use Rattle.fmp_run_most.specs.Gauged.{gauged}
use Rattle.fmp_run_most.proofs.settling.beyond_met.Goals as goal

pub returns-clause-meets : goal.returns-clause-meets
returns-clause-meets g c =
    let sizing = c.args.sizing.now in
    let figures = sizing.figures.now in
    let place = λ (steps : List Step). gauged figures c.args.bounds.now (origin sizing.config.now sizing.scripts.now sizing.rules steps) in
    subst (λ (steps : List Step). IfOk c.search_numbers.result (λ o. IfSome o (Meets metered_after metered_number (place steps) c.args.within.turns.count (length figures * 65536)))) sizing.bare c.search_numbers.ensures.met

pub returns-clause-none : goal.returns-clause-none
returns-clause-none g c =
    let sizing = c.args.sizing.now in
    let view = gauged sizing.figures.now c.args.bounds.now in
    let place = λ (steps : List Step). origin sizing.config.now sizing.scripts.now sizing.rules steps in
    let turns = c.args.within.turns.count in
    let room = c.args.within.places.count - 1 in
    let over = g.P.Progress.over c.search_numbers.new.progress in
    IfOk-weaker c.search_numbers.result _ _
    (λ o left none. open_viewed after metered_after view (λ p s. refl) (λ a b same. ap (λ (w : Metered). w.place) same) (place []) turns room over
    (subst (λ (steps : List Step). IsLeftOpen metered_after (λ w. false) (view (place steps)) turns room over) sizing.bare (left none)))
    c.search_numbers.ensures.none
