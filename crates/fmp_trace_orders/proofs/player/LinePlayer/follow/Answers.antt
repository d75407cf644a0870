use Rattle.std.proofs.Common.{ap, ◌∙◌}
use Rattle.fmp_trace_orders.specs.Standing.{Standing, begun}
use Rattle.fmp_trace_orders.proofs.player.LinePlayer.follow.Goals as goal

pub returns-clause-begun : goal.returns-clause-begun
returns-clause-begun c = ap (λ (x : Standing). begun x.state) c.self.view_is ∙ ap begun c.step.ensures.state
