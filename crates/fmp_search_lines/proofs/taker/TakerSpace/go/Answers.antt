use Rattle.std.proofs.Common.{◌≡◌, ◌<◌, None, Some, true, false, sym, ◌∙◌, arith, rules}
use Rattle.fmp_search_lines.specs.Held.{held}
use Rattle.fmp_search_lines.proofs.Held.{none_goes, wrong_goes, right_goes, line_is_small}
use Rattle.fmp_search_lines.proofs.taker.TakerSpace.go.Goals as goal

pub returns-in_default-clause-goes : goal.returns-in_default-clause-goes
returns-in_default-clause-goes g c =
    let w = c.args.self.now in
    let h = held w.lasts.now w.musts.now w.count w.goal w.taken.top w.taken.pending.items (g.P.Player.state w.player) in
    let e : c.line_of.result ≡ None = search rules in
    none_goes g.P.Player.plays h c.args.step _ (sym c.line_of.ensures ∙ e)

pub returns-then-not-branch-clause-goes : goal.returns-then-not-branch-clause-goes
returns-then-not-branch-clause-goes g c =
    let w = c.args.self.now in
    let h = held w.lasts.now w.musts.now w.count w.goal w.taken.top w.taken.pending.items (g.P.Player.state w.player) in
    let e : c.line_of.result ≡ Some c.in-Some.line = search rules in
    let f : c.in_ok-play.field-0 ≡ false = search rules in
    wrong_goes g.P.Player.plays h c.args.step c.in-Some.line (g.P.Player.state c.play.new.self) _ (sym c.line_of.ensures ∙ e)
    (rw f at c.in_ok-play.ensures.goes)

pub take-requires-clause-small : goal.take-requires-clause-small
take-requires-clause-small g c = λ high.
    let w = c.args.self.now in
    let h = held w.lasts.now w.musts.now w.count w.goal w.taken.top w.taken.pending.items (g.P.Player.state w.player) in
    let e : c.line_of.result ≡ Some c.in-Some.line = search rules in
    let less = line_is_small g.P.Player.plays h c.args.step c.in-Some.line (sym c.line_of.ensures ∙ e) high in
    let small : c.args.self.now.count < 4294967296 = search rules in
    omega (arith, less, small)

pub returns-clause-goes : goal.returns-clause-goes
returns-clause-goes g c =
    let w = c.args.self.now in
    let h = held w.lasts.now w.musts.now w.count w.goal w.taken.top w.taken.pending.items (g.P.Player.state w.player) in
    let e : c.line_of.result ≡ Some c.in-Some.line = search rules in
    let t : c.in_ok-play.field-0 ≡ true = search rules in
    right_goes g.P.Player.plays h c.args.step c.in-Some.line (g.P.Player.state c.play.new.self) _ _ (sym c.line_of.ensures ∙ e)
    (rw t at c.in_ok-play.ensures.goes) c.take.ensures.top c.take.ensures.pending
