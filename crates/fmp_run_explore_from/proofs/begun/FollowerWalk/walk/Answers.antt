use Rattle.std.proofs.Common.{◌≢◌, ◌+◌, ◌<◌, ◌^◌, List, length, arith, subst, sym}
use Rattle.std.proofs.lemmas.Bool.{eqb-true, eqb-false}
use Rattle.std.proofs.lemmas.List.{nil_from_length}
use Rattle.fmp_names.specs.Names.{AreValid, NameLists}
use Rattle.fmp_rules.specs.Step.{step}
use Rattle.fmp_kernel_order.specs.Queues.{listed}
use Rattle.fmp_search.specs.declared.guided.Choice.{Choice}
use Rattle.fmp_run_explore_from.specs.Lines.{GoesOnBy, GoesNoFurther}
use Rattle.fmp_run_explore_from.proofs.Printed.{line_shorter}
use Rattle.fmp_run_explore_from.proofs.Following.{IsSoFar, so_begun, so_more, so_whole, so_stray}
use Rattle.fmp_run_explore_from.proofs.begun.FollowerWalk.walk.Goals as goal

pub loop-choices-init : goal.loop-choices-init
loop-choices-init g c =
    let config = c.args.config.now in
    let scripts = c.args._scripts.now in
    let text = c.args.self.now.text.now in
    let room = c.requires.room in
    let short = c.args.self.now.short in
    record {
      so_far =
          subst (λ (cs : List Choice). IsSoFar config scripts c.args._rules text (g.F.Follow.at c.args.walker.now).place 1 cs text) (sym c.new-choices.ensures.items)
          (so_begun config scripts c.args._rules c.names-names.ensures.valid text (g.F.Follow.at c.args.walker.now).place c.requires.begin);
      room = omega (arith, room, short);
      count = omega arith;
    }

pub loop-choices-smaller : goal.loop-choices-smaller
loop-choices-smaller g c =
    let on = rw c.in-Some.is at c.in_ok-choice.ensures.further in
    line_shorter c.names-names.result.now c.loop-choices.number (step listed (g.F.Follow.at c.loop-choices.walker).place.machine on.event).1 c.loop-choices.rest.now c.in-Some.after.now on.line

pub loop-choices-preserved : goal.loop-choices-preserved
loop-choices-preserved g c =
    let config = c.args.config.now in
    let scripts = c.args._scripts.now in
    let text = c.args.self.now.text.now in
    let n = c.loop-choices.number in
    let w = (g.F.Follow.at c.loop-choices.walker).place in
    let next = (g.F.Follow.at c.go_on.new.walker).place in
    let rest = c.loop-choices.rest.now in
    let after = c.in-Some.after.now in
    let far = c.loop-choices.invariant.so_far in
    let on = rw c.in-Some.is at c.in_ok-choice.ensures.further in
    let named = subst (λ (names : NameLists). GoesOnBy names n w next rest after c.in-Some.choice) c.names-names.ensures.value on in
    let more = so_more config scripts c.args._rules c.names-names.ensures.valid text w n c.loop-choices.choices.items rest far next after c.in-Some.choice named in
    let shorter = line_shorter c.names-names.result.now n (step listed w.machine on.event).1 rest after on.line in
    let left = c.in_ok-choice.ensures.room in
    let room = c.loop-choices.invariant.room in
    let count = c.loop-choices.invariant.count in
    record {
      so_far = subst (λ (cs : List Choice). IsSoFar config scripts c.args._rules text next (n + 1) cs after) (sym c.in_ok-push.ensures.items) more;
      room = omega (arith, shorter, left, room);
      count = omega (arith, shorter, count);
    }

pub returns-then-is_empty : goal.returns-then-is_empty
returns-then-is_empty g c =
    let rest = c.loop-choices.rest.now in (
      so_whole c.args.config.now c.args._scripts.now c.args._rules c.names-names.ensures.valid c.args.self.now.text.now (g.F.Follow.at c.loop-choices.walker).place c.loop-choices.number c.loop-choices.choices.items rest
          c.loop-choices.invariant.so_far (nil_from_length rest (eqb-true (length rest) 0 (sym c.if-is_empty.ensures))),
      tt,
    )

pub returns : goal.returns
returns g c =
    let rest = c.loop-choices.rest.now in
    let n = c.loop-choices.number in
    let w = (g.F.Follow.at c.loop-choices.walker).place in
    let count = c.loop-choices.invariant.count in
    let short = c.args.self.now.short in
    let small : n < 2 ^ 64 = omega (arith, count, short) in
    let some : length rest ≢ 0 = eqb-false (length rest) 0 (sym c.if-is_empty.ensures) in
    let none = rw c.in_default.is at c.in_ok-choice.ensures.no_further in (
      tt,
      so_stray c.args.config.now c.args._scripts.now c.args._rules c.names-names.ensures.valid c.args.self.now.text.now w n c.loop-choices.choices.items rest c.loop-choices.invariant.so_far
          (subst AreValid c.names-names.ensures.value c.validity.ensures) c.requires.needs small (omega (arith, some))
          (subst (λ (names : NameLists). GoesNoFurther names n w rest) c.names-names.ensures.value none),
    )
