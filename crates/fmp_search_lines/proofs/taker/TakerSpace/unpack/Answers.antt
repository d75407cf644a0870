use Rattle.std.proofs.Common.{[], subst, sym}
use Rattle.fmp_search_lines.specs.Held.{held}
use Rattle.fmp_search_lines.proofs.Keys.{held_there}
use Rattle.fmp_search_lines.proofs.taker.TakerSpace.unpack.Goals as goal

pub unpack-requires : goal.unpack-requires
unpack-requires g c =
    let P = g.P.Player in
    let p = c.requires.0 in
    let is = c.requires.1 in
    let same = (c.unpack_taken-state.ensures.is is.state p.place.top p.place.pending is.taken).0 in
    (p.place.state, subst (λ k. P.IsKey (P.begins c.args.self.now.player) c.args.tables.now.states k p.place.state) (sym same) is.there)

pub returns-clause-there : goal.returns-clause-there
returns-clause-there g c = λ p is.
    let P = g.P.Player in
    let w = c.args.self.now in
    let o = held w.lasts.now w.musts.now w.count w.goal 0 [] (P.begins w.player) in
    let taken = c.unpack_taken-state.result.1 in
    held_there o (P.IsKey (P.begins w.player) c.args.tables.now.states) c.args.tables.now.lists (record { top = taken.top; pending = taken.pending.items; state = P.state c.unpack.new.self }) c.unpack_taken-state.result.0 c.args.key p is
    c.unpack_taken-state.ensures.is c.in_ok-unpack.ensures.there
