use Rattle.std.proofs.Common.{◌≡◌, ◌∙◌, ◌++◌, ◌∷◌, [], ◌+◌, List, ℕ, true, false, length, take, refl, ap, sym, subst, arith}
use Rattle.std.specs.Prelude.{slice_index_or}
use Rattle.std.proofs.lemmas.List.{take_more, length-take-le}
use Rattle.fmp_codes.specs.declared.records.Event.{Event}
use Rattle.fmp_rules.specs.Arrivals.{numbered}
use Rattle.fmp_rules.specs.Boot.{booted}
use Rattle.fmp_rules.specs.Step.{answers}
use Rattle.fmp_rules.proofs.Replays.{length-answers}
use Rattle.fmp_search_pattern.specs.declared.question.Step.{Step}
use Rattle.fmp_search_shrink.specs.Seen.{ShowsAfter, Watches}
use Rattle.fmp_search_shrink.proofs.Answering.{taken_within}
use Rattle.fmp_search_shrink.proofs.Watching.{is_shown, none_up_to, not_shown, watches_at_boot}
use Rattle.fmp_search_shrink.proofs.showing.shown_at.Goals as goal

pub loop-event-init : goal.loop-event-init
loop-event-init c =
    let config = c.args.config.now in
    let rules = c.args.rules in
    let question = c.args.question.now in
    let w = c.in_ok-watch.ensures in
    let watch = c.in_ok-watch.watch in
    let watches : Watches config rules question [] watch = watches_at_boot config rules question watch w.stands w.processors w.taken w.numbers in
    let unseen = subst (λ (q : List Step). slice_index_or watch.numbers (length q) false ≡ false) c.steps-most.ensures c.if-watch-most.false in
    record {
      watches = watches;
      counted = refl;
      unshown = λ n small shown.
          let none : n ≡ 0 = omega arith in
          not_shown config rules question [] watch watches unseen (subst (λ (k : ℕ). ShowsAfter config rules question c.args.events.now k) none shown);
    }

pub go_on-requires-clause-room : goal.go_on-requires-clause-room
go_on-requires-clause-room c =
    let config = c.args.config.now in
    let given = take c.loop-event.event-index c.args.events.now in
    let so_far = c.loop-event.invariant.watches in
    let here = c.loop-event-test.true in
    let long = length-answers (booted config) given ∙ length-take-le c.loop-event.event-index c.args.events.now (omega (arith, here)) in
    taken_within c.args.rules c.loop-event.watch.taken (answers numbered (booted config) given) so_far.taken_are
    (λ counted. let few = c.requires.few counted in omega (arith, long, few, here))

pub loop-event-preserved : goal.loop-event-preserved
loop-event-preserved c =
    let config = c.args.config.now in
    let rules = c.args.rules in
    let question = c.args.question.now in
    let events = c.args.events.now in
    let index = c.loop-event.event-index in
    let given = take index events in
    let e = c.event-item.result in
    let so_far = c.loop-event.invariant in
    let longer : take (index + 1) events ≡ given ++ e ∷ [] = take_more events index e c.loop-event-test.true ∙ ap (λ (x : Event). given ++ x ∷ []) (sym c.event-item.is) in
    let watch = c.go_on.new.self in
    let watches : Watches config rules question (take (index + 1) events) watch =
    subst (λ (es : List Event). Watches config rules question es watch) (sym longer) (c.in_ok-go_on.ensures given so_far.watches) in
    let unseen = subst (λ (q : List Step). slice_index_or watch.numbers (length q) false ≡ false) c.steps-most.ensures c.if-watch-most-2.false in
    record {
      watches = watches;
      counted = ap (λ (n : ℕ). n + 1) so_far.counted;
      unshown =
          none_up_to (λ n. ShowsAfter config rules question events n) index so_far.unshown (not_shown config rules question (take (index + 1) events) watch watches unseen);
    }

pub returns-then-watch-most : goal.returns-then-watch-most
returns-then-watch-most c =
    let config = c.args.config.now in
    let rules = c.args.rules in
    let question = c.args.question.now in
    let w = c.in_ok-watch.ensures in
    let watch = c.in_ok-watch.watch in
    let watches : Watches config rules question [] watch = watches_at_boot config rules question watch w.stands w.processors w.taken w.numbers in
    let seen = subst (λ (q : List Step). slice_index_or watch.numbers (length q) false ≡ true) c.steps-most.ensures c.if-watch-most.true in
    (omega arith, is_shown config rules question [] watch watches seen, λ k small. absurd (omega arith))

pub returns-then-watch-most-2 : goal.returns-then-watch-most-2
returns-then-watch-most-2 c =
    let config = c.args.config.now in
    let rules = c.args.rules in
    let question = c.args.question.now in
    let events = c.args.events.now in
    let index = c.loop-event.event-index in
    let given = take index events in
    let e = c.event-item.result in
    let so_far = c.loop-event.invariant in
    let here = c.loop-event-test.true in
    let count = so_far.counted in
    let longer : take (index + 1) events ≡ given ++ e ∷ [] = take_more events index e here ∙ ap (λ (x : Event). given ++ x ∷ []) (sym c.event-item.is) in
    let watch = c.go_on.new.self in
    let watches : Watches config rules question (take (index + 1) events) watch =
    subst (λ (es : List Event). Watches config rules question es watch) (sym longer) (c.in_ok-go_on.ensures given so_far.watches) in
    let seen = subst (λ (q : List Step). slice_index_or watch.numbers (length q) false ≡ true) c.steps-most.ensures c.if-watch-most-2.true in
    let next : index + 1 ≡ c.loop-event.count + 1 = omega (arith, count) in (
      omega (arith, count, here),
      subst (λ (k : ℕ). ShowsAfter config rules question events k) next (is_shown config rules question (take (index + 1) events) watch watches seen),
      λ k small. so_far.unshown k (omega (arith, count, small)),
    )

pub returns : goal.returns
returns c = λ n small shown.
    let past = c.loop-event-test.false in
    c.loop-event.invariant.unshown n (omega (arith, past, small)) shown
