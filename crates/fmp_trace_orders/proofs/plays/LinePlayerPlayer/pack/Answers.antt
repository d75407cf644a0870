use Rattle.std.proofs.Common.{ap}
use Rattle.fmp_trace_orders.specs.Standing.{Standing, begun}
use Rattle.fmp_trace_orders.specs.Playing.{lines_from}
use Rattle.fmp_trace_orders.proofs.Keys.{packed_key, playing_kept}
use Rattle.fmp_trace_orders.proofs.plays.LinePlayerPlayer.pack.Goals as goal

pub returns-in_err-packed-clause-kept : goal.returns-in_err-packed-clause-kept
returns-in_err-packed-clause-kept c = playing_kept c.args.tables.now (begun c.args.self.now.state) c.pack.new.parts c.pack.ensures.kept

pub returns-clause-key : goal.returns-clause-key
returns-clause-key c =
    let w = c.self.inside in
    packed_key c.pack.new.parts w.config.now (lines_from w.text.now w.lines.now.starts.items) w.kernel w.start.now c.args.self.now.state
    c.in_ok-packed.packed.machine c.in_ok-packed.packed.counting c.joined.result (ap (λ (x : Standing). x.state) c.self.view_is) c.self.invariant.2
    c.validity.ensures c.joined.ensures.upper c.joined.ensures.lower c.in_ok-packed.ensures.packed

pub returns-clause-kept : goal.returns-clause-kept
returns-clause-kept c = playing_kept c.args.tables.now (begun c.args.self.now.state) c.pack.new.parts c.pack.ensures.kept
