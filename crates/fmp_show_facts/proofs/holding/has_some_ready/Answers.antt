use Rattle.std.proofs.Common.{ℕ, length, sym, ap, arith}
use Rattle.fmp_codes.specs.declared.numbers.Task.{Task}
use Rattle.fmp_facts.specs.declared.facts.Kind.TheVariants as kind
use Rattle.fmp_facts.specs.declared.facts.Thing.TheVariants as thing
use Rattle.fmp_show_facts.specs.Facts.{is_ready_thing}
use Rattle.fmp_show_facts.proofs.Some.{later_ones, this_one}
use Rattle.fmp_show_facts.proofs.holding.has_some_ready.Goals as goal

pub returns-then-has_ready : goal.returns-then-has_ready
returns-then-has_ready g c = let W = g.M.Words in
    let w = W.world c.args.machine.now in
    let lt = c.loop-index-test.true in
    let count = c.task_count-index-end.ensures.value in
    sym (this_one (is_ready_thing w c.args.p) kind.Task c.loop-index.index (length w.tasks) (omega (arith, lt, count)) (thing.Task c.from_index.result) c.has_ready.result _
    (ap (λ (t : Task). thing.Task t) c.from_index.ensures.value) c.has_ready.ensures c.if-has_ready.true c.loop-index.invariant)

pub loop-index-preserved : goal.loop-index-preserved
loop-index-preserved g c = let W = g.M.Words in
    let w = W.world c.args.machine.now in
    let lt = c.loop-index-test.true in
    let count = c.task_count-index-end.ensures.value in
    later_ones (is_ready_thing w c.args.p) kind.Task c.loop-index.index (length w.tasks) (omega (arith, lt, count)) (thing.Task c.from_index.result) c.has_ready.result _
    (ap (λ (t : Task). thing.Task t) c.from_index.ensures.value) c.has_ready.ensures c.if-has_ready.false c.loop-index.invariant
