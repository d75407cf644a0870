use Rattle.std.proofs.Common.{◌≡◌, ◌∙◌, ◌+◌, length}
use Rattle.fmp_search.proofs.Marked.{within, closed, earned}
use Rattle.fmp_search.proofs.staying.mark_test.Goals as goal

pub mark_failing-requires-clause-within : goal.mark_failing-requires-clause-within
mark_failing-requires-clause-within g c =
    within g.W.Space.after g.W.Space.passes (g.W.Space.origin c.args._walker.now) c.args._nodes.now c.args.test c.args.chart.now c.requires.charted c.args.marks.now c.requires.long

pub spread-requires : goal.spread-requires
spread-requires g c = record {
  within = within g.W.Space.after g.W.Space.passes (g.W.Space.origin c.args._walker.now) c.args._nodes.now c.args.test c.args.chart.now c.requires.charted c.mark_failing.new.marks
      (c.mark_failing.ensures.long ∙ c.requires.long);
}

pub returns-clause-closed : goal.returns-clause-closed
returns-clause-closed g c =
    let long : length c.mark_failing.new.marks ≡ length c.args._nodes.now + 1 = c.mark_failing.ensures.long ∙ c.requires.long in
    closed g.W.Space.after g.W.Space.passes (g.W.Space.origin c.args._walker.now) c.args._nodes.now c.args.test c.args.chart.now c.requires.charted c.args.marks.now c.mark_failing.new.marks
    c.spread.new.marks long (c.spread.ensures.long ∙ long) c.mark_failing.ensures.failing c.requires.opened c.mark_failing.ensures.kept c.spread.ensures.kept c.spread.ensures.done

pub returns-clause-earned : goal.returns-clause-earned
returns-clause-earned g c =
    let long : length c.mark_failing.new.marks ≡ length c.args._nodes.now + 1 = c.mark_failing.ensures.long ∙ c.requires.long in
    earned g.W.Space.after g.W.Space.passes (g.W.Space.origin c.args._walker.now) c.args._nodes.now c.args.test c.args.chart.now c.requires.charted c.args.marks.now c.mark_failing.new.marks
    c.spread.new.marks long (c.spread.ensures.long ∙ long) c.mark_failing.ensures.failing c.requires.opened c.mark_failing.ensures.kept c.spread.ensures.kept c.spread.ensures.done
    c.spread.ensures.due c.mark_failing.ensures.due
