use Rattle.std.proofs.Common.{◌≡◌, ◌∙◌, ◌++◌, ◌∷◌, [], ◌+◌, List, take, ap, subst, sym}
use Rattle.std.proofs.lemmas.List.{take_all, take_more}
use Rattle.fmp_codes.specs.declared.records.Event.{Event}
use Rattle.fmp_codes.specs.declared.records.Record.{Record}
use Rattle.fmp_law_lists.specs.Stands.{Stands}
use Rattle.fmp_rules.specs.Arrivals.{numbered}
use Rattle.fmp_rules.specs.Boot.{booted}
use Rattle.fmp_rules.specs.Step.{answers, replay, step}
use Rattle.fmp_search_shrink.specs.Runners.{made_by, made_in}
use Rattle.fmp_search_shrink.specs.declared.made.Made.{Made}
use Rattle.fmp_search_shrink.proofs.After.{made_after, stands_after}
use Rattle.fmp_search_shrink.proofs.made.made_calls.Goals as goal

pub loop-event-preserved : goal.loop-event-preserved
loop-event-preserved c =
    let config = c.args.config.now in
    let events = c.args.events.now in
    let index = c.loop-event.event-index in
    let given = take index events in
    let e = c.event-item.result in
    let m = replay numbered (booted config) given in
    let so_far = c.loop-event.invariant in
    let longer : take (index + 1) events ≡ given ++ e ∷ [] = take_more events index e c.loop-event-test.true ∙ ap (λ (x : Event). given ++ x ∷ []) (sym c.event-item.is) in
    let report = c.step_into.ensures.record m so_far.stands in
    let stands = c.step_into.ensures.stands m so_far.stands in
    let added = c.in_ok-put_made.ensures ∙ ap (λ (r : Record). c.loop-event.all.items ++ made_by r.runner r.event) report in
    record {
      stands = subst (λ (es : List Event). Stands c.step_into.new.self (replay numbered (booted config) es)) (sym longer) (stands_after config given e c.step_into.new.self stands);
      processors = c.step_into.ensures.processors ∙ so_far.processors;
      so_far = added ∙ ap (λ (l : List Made). l ++ made_by (step numbered m e).1.runner (step numbered m e).1.event) so_far.so_far ∙ sym (made_after config given e) ∙ ap (λ (es : List Event). made_in (answers numbered (booted config) es)) (sym longer);
    }

pub returns : goal.returns
returns c =
    let all = take_all c.loop-event.event-index c.args.events.now c.loop-event-test.false in
    c.loop-event.invariant.so_far ∙ ap (λ (es : List Event). made_in (answers numbered (booted c.args.config.now) es)) all
