use Rattle.fmp_search_lines.specs.Held.{held}
use Rattle.fmp_search_lines.proofs.Held.{next-none}
use Rattle.fmp_search_lines.proofs.taker.TakerSpace.steps.Goals as goal

pub returns : goal.returns
returns g c =
    let w = c.args.self.now in
    let h = held w.lasts.now w.musts.now w.count w.goal w.taken.top w.taken.pending.items (g.P.Player.state w.player) in
    λ s high. next-none g.P.Player.plays h s (c.steps.ensures s high)
