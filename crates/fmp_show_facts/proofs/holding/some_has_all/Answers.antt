use Rattle.std.proofs.Common.{arith, sym}
use Rattle.fmp_show_facts.specs.Facts.{count_of, has_all}
use Rattle.fmp_show_facts.proofs.Some.{later_ones, this_one}
use Rattle.fmp_show_facts.proofs.holding.some_has_all.Goals as goal

pub returns-then-has_all : goal.returns-then-has_all
returns-then-has_all g c = let W = g.M.Words in
    let w = W.world c.args.machine.now in
    let lt = c.loop-index-test.true in
    let count = c.count_of-index-end.ensures.value in
    sym (this_one (has_all w c.args.facts.now) c.args.kind c.loop-index.index (count_of w c.args.kind) (omega (arith, lt, count)) c.thing_at.result c.has_all.result _
    c.thing_at.ensures c.has_all.ensures c.if-has_all.true c.loop-index.invariant)

pub loop-index-preserved : goal.loop-index-preserved
loop-index-preserved g c = let W = g.M.Words in
    let w = W.world c.args.machine.now in
    let lt = c.loop-index-test.true in
    let count = c.count_of-index-end.ensures.value in
    later_ones (has_all w c.args.facts.now) c.args.kind c.loop-index.index (count_of w c.args.kind) (omega (arith, lt, count)) c.thing_at.result c.has_all.result _
    c.thing_at.ensures c.has_all.ensures c.if-has_all.false c.loop-index.invariant
