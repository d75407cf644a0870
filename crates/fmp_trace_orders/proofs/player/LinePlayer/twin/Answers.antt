use Rattle.std.proofs.Common.{◌≡◌, IfOk, subst}
use Rattle.fmp_trace_orders.specs.Standing.{Standing, begun}
use Rattle.fmp_trace_orders.proofs.player.LinePlayer.twin.Goals as goal

pub returns : goal.returns
returns c = subst (λ (x : Standing). IfOk c.new.result (λ w. w.state ≡ begun x.state)) c.self.view_is c.new.ensures
