use Rattle.std.proofs.Common.{arith, ◌-◌}
use Rattle.fmp_run_most.proofs.Nearest.{gone_all, gone_first, gone_more, gone_part}
use Rattle.fmp_run_most.proofs.settling.settled_nearer.Goals as goal

pub loop-lines-init : goal.loop-lines-init
loop-lines-init g c = gone_first c.args.sizing.now.config.now c.args.sizing.now.scripts.now c.args.sizing.now.rules c.args.within.turns.count c.args.sizing.now.figures.now c.args.known.items c.requires.known

-- the room did not do for a few lines more
pub returns-in-Part : goal.returns-in-Part
returns-in-Part g c =
    let next = c.more_lines-next.ensures in
    gone_part c.args.sizing.now.config.now c.args.sizing.now.scripts.now c.args.sizing.now.rules c.args.within.turns.count c.args.sizing.now.figures.now (c.args.within.places.count - 1) _
    c.loop-lines.best.items c.loop-lines.lines c.loop-lines.reach c.loop-lines.invariant c.more_lines-next.result next.more next.near next.asked (c.in_ok-bounds.ensures.part c.in-Part.is)

pub loop-lines-preserved : goal.loop-lines-preserved
loop-lines-preserved g c =
    gone_more c.args.sizing.now.config.now c.args.sizing.now.scripts.now c.args.sizing.now.rules c.args.within.turns.count c.args.sizing.now.figures.now c.in_ok-bounds.bounds.items
    c.more_lines-next.result c.in_ok-bounds.nearer c.more_lines-next.ensures.asked c.in_ok-bounds.ensures.most c.in_default.not-Part

-- as many were gone through as were asked for
pub returns : goal.returns
returns g c =
    let past = c.loop-lines-test.false in
    gone_all c.args.sizing.now.config.now c.args.sizing.now.scripts.now c.args.sizing.now.rules c.args.within.turns.count c.args.sizing.now.figures.now (c.args.within.places.count - 1) _
    c.loop-lines.best.items c.loop-lines.lines c.loop-lines.reach c.loop-lines.invariant c.args.within.turns.some (omega (arith, past))
