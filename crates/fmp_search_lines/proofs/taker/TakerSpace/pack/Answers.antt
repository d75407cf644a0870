use Rattle.std.proofs.Common.{[]}
use Rattle.fmp_search_lines.specs.Held.{held}
use Rattle.fmp_search_lines.proofs.Keys.{held_kept, held_key}
use Rattle.fmp_search_lines.proofs.taker.TakerSpace.pack.Goals as goal

pub returns-in_err-key-clause-kept : goal.returns-in_err-key-clause-kept
returns-in_err-key-clause-kept g c =
    let P = g.P.Player in
    let w = c.args.self.now in
    let o = held w.lasts.now w.musts.now w.count w.goal 0 [] (P.begins w.player) in
    held_kept o (P.IsKey (P.begins w.player) c.args.tables.now.states) (P.IsKey (P.begins w.player) c.pack.new.tables) c.args.tables.now.lists c.pack_taken.new.lists c.pack.ensures.kept c.pack_taken.ensures.kept

pub returns-clause-key : goal.returns-clause-key
returns-clause-key g c =
    let P = g.P.Player in
    let w = c.args.self.now in
    let o = held w.lasts.now w.musts.now w.count w.goal 0 [] (P.begins w.player) in
    held_key o (P.IsKey (P.begins w.player) c.pack.new.tables) c.pack_taken.new.lists (record { top = w.taken.top; pending = w.taken.pending.items; state = P.state w.player }) c.in_ok-state.state c.in_ok-key.key
    c.validity.ensures c.in_ok-state.ensures.key c.in_ok-key.ensures.is

pub returns-clause-kept : goal.returns-clause-kept
returns-clause-kept g c =
    let P = g.P.Player in
    let w = c.args.self.now in
    let o = held w.lasts.now w.musts.now w.count w.goal 0 [] (P.begins w.player) in
    held_kept o (P.IsKey (P.begins w.player) c.args.tables.now.states) (P.IsKey (P.begins w.player) c.pack.new.tables) c.args.tables.now.lists c.pack_taken.new.lists c.pack.ensures.kept c.pack_taken.ensures.kept
