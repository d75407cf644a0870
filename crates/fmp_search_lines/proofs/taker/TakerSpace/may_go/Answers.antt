use Rattle.std.proofs.Common.{◌≡◌, None, sym, ◌∙◌, rules}
use Rattle.fmp_search_lines.specs.Held.{held}
use Rattle.fmp_search_lines.proofs.Held.{next-none}
use Rattle.fmp_search_lines.proofs.taker.TakerSpace.may_go.Goals as goal

pub returns : goal.returns
returns g c = λ f.
    let w = c.args.self.now in
    let h = held w.lasts.now w.musts.now w.count w.goal w.taken.top w.taken.pending.items (g.P.Player.state w.player) in
    let e : c.line_of.result ≡ None = search rules in
    next-none g.P.Player.plays h c.args.step (sym c.line_of.ensures ∙ e)
