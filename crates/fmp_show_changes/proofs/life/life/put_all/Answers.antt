use Rattle.std.proofs.Common.{◌<◌, length, rules, arith}
use Rattle.fmp_show_changes.proofs.life.Telling.{one_seen, one_reported, rest_same}
use Rattle.fmp_show_changes.proofs.life.life.put_all.Goals as goal

pub loop-watched-preserved : goal.loop-watched-preserved
loop-watched-preserved g c = let W = g.M.Words in
    let lt : c.loop-watched.watched-index < length c.loop-watched.all = search rules in
    let lt_first : c.loop-watched.watched-index < length c.args.all.now = omega (arith, lt, c.loop-watched.invariant.count) in
    record {
      report = one_reported c.args.names.now (W.world c.args.machine.now) _ _ c.loop-watched.watched-index c.watched-item.result lt lt_first _ c.args.out.now c.loop-watched.out _ c.loop-watched.invariant.rest c.put_change.ensures.report c.loop-watched.invariant.report;
      count = search rules;
      rest = rest_same c.args.names.now (W.world c.args.machine.now) _ _ c.loop-watched.watched-index c.watched-item.result lt lt_first _ c.loop-watched.invariant.rest;
      front = λ whole. one_seen c.args.names.now (W.world c.args.machine.now) _ _ c.loop-watched.watched-index c.watched-item.result lt lt_first _ c.loop-watched.invariant.rest (c.put_change.ensures.seen whole) (c.loop-watched.invariant.front (c.put_change.ensures.report whole).0);
    }
