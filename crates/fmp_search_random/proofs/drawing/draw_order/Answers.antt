use Rattle.std.proofs.Common.{◌≡◌, ◌∙◌, ◌-◌, ◌≤◌, ◌==◌, ℕ, List, [], length, refl, ap, subst, sym, arith}
use Rattle.fmp_setup.specs.Setup.{Setup}
use Rattle.fmp_setup.specs.Valid.{IsValid}
use Rattle.fmp_search_kernel.specs.Walked.{origin_of}
use Rattle.fmp_search_orders.specs.declared.rules.Rules.{Rules}
use Rattle.fmp_search_orders.specs.Places.{origin}
use Rattle.fmp_search_pattern.specs.declared.question.Step.{Step}
use Rattle.fmp_search_random.specs.Drawn.{rules_of}
use Rattle.fmp_search_random.proofs.Following.{so_begun, so_more, so_whole}
use Rattle.fmp_search_random.proofs.drawing.draw_order.Goals as goal

pub loop-event-init : goal.loop-event-init
loop-event-init c =
    let config = c.args.config.now in
    let scripts = c.args.scripts.now in
    let valid : IsValid config = c.processors-processors.ensures.valid in
    let by : Rules = rules_of c.args.drawing c.args.limits.ticks.count in
    let asked : c.new-question.result ≡ [] = c.new-question.ensures ∙ c.new.ensures.items in
    let begun : c.in_ok-walker.walker.place ≡ origin config scripts by [] =
    c.in_ok-walker.ensures ∙ ap (λ (r : Rules). origin config scripts r c.new-question.result) c.rules.ensures ∙ ap (λ (q : List Step). origin config scripts by q) asked in
    let there : c.start_over.new.self.place ≡ origin config scripts by [] = c.in_ok-start_over.ensures.there ∙ ap origin_of begun in
    let room = c.in_ok-start_over.ensures.room in
    let few = c.args.limits.turns.few in
    record {
      so_far =
          so_begun c.args.drawing c.args.seed config scripts c.args.limits.ticks.count c.args.limits.turns.count valid c.new-events.result.items c.new-draws.result c.start_over.new.self.place
          c.new-events.ensures.items c.new-draws.ensures there;
      room = omega (arith, room, few);
    }

pub go_on-requires-clause-least : goal.go_on-requires-clause-least
go_on-requires-clause-least c =
    let valid : IsValid c.args.config.now = c.processors-processors.ensures.valid in
    subst (λ (n : ℕ). 1 ≤ n) (sym c.processors-processors.ensures.value) valid.has_processors

pub go_on-requires-clause-same : goal.go_on-requires-clause-same
go_on-requires-clause-same c = c.processors-processors.ensures.value ∙ sym (ap (λ (x : Setup). x.processors) c.loop-event.invariant.so_far.leads.config_is)

pub loop-event-preserved : goal.loop-event-preserved
loop-event-preserved c =
    let config = c.args.config.now in
    let valid : IsValid config = c.processors-processors.ensures.valid in
    let far = c.loop-event.invariant in
    let goes = c.in-Some.ensures.goes in
    let least = goes.0 in
    let left = far.room in
    let room = c.in-Some.ensures.room in
    record {
      so_far =
          so_more c.args.drawing c.args.seed config c.args.scripts.now c.args.limits.ticks.count c.args.limits.turns.count valid c.loop-event.events.items c.loop-event.left c.loop-event.draws
          c.loop-event.walker.place far.so_far c.in-Some.event c.go_on.new.walker.place c.go_on.new.draws c.push.new.self.items (c.loop-event.left - 1) goes
          c.in_ok-push.ensures.items refl;
      room = omega (arith, least, left, room);
    }

pub returns : goal.returns
returns c =
    let config = c.args.config.now in
    let valid : IsValid config = c.processors-processors.ensures.valid in
    so_whole c.args.drawing c.args.seed config c.args.scripts.now c.args.limits.ticks.count c.args.limits.turns.count valid c.loop-event.events.items c.loop-event.left c.loop-event.draws
    c.loop-event.walker.place c.loop-event.invariant.so_far c.go_on.new.walker.place c.go_on.new.draws c.is_empty-is_quiet.result c.in_default.ensures.goes
    (c.is_empty-is_quiet.ensures ∙ ap (λ (xs : List ℕ). length xs == 0) c.choices.ensures)
