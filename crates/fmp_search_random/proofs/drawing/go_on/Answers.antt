use Rattle.std.proofs.Common.{◌∙◌, ap, refl, sym, arith}
use Rattle.std.specs.Option.{option_and_then}
use Rattle.fmp_search_orders.specs.Places.{event_of}
use Rattle.fmp_search_random.proofs.Following.{follows, nobody_goes, none_left}
use Rattle.fmp_search_random.proofs.drawing.go_on.Goals as goal

pub returns-then-left-eq0-clause-goes : goal.returns-then-left-eq0-clause-goes
returns-then-left-eq0-clause-goes c = (none_left c.args.left c.args.draws.now c.args.walker.now.place c.if-left-eq0.true, refl)

pub returns-in_default-clause-goes : goal.returns-in_default-clause-goes
returns-in_default-clause-goes c =
    let w = c.args.walker.now.place in
    (nobody_goes c.args.left c.args.draws.now w (ap (option_and_then (event_of w)) (sym c.next_step.ensures.drawn ∙ c.in_default.is)), refl)

pub returns-clause-goes : goal.returns-clause-goes
returns-clause-goes c =
    let some = c.if-left-eq0.false in
    follows c.args.walker.now c.follow.new.self c.args.draws.now c.next_step.new.self c.args.left c.in-Some.step c.follow.result (omega (arith, some))
    (sym c.next_step.ensures.drawn ∙ c.in-Some.is) c.next_step.ensures.after c.follow.ensures.event c.follow.ensures.went c.follow.ensures.same
