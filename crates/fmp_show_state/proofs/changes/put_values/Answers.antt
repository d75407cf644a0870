use Rattle.std.proofs.Common.{◌<◌, length, arith}
use Rattle.fmp_rules.specs.Objects.{values}
use Rattle.fmp_show_state.proofs.Lines.{value_added}
use Rattle.fmp_show_state.proofs.changes.put_values.Goals as goal

pub loop-index-preserved : goal.loop-index-preserved
loop-index-preserved g c = let W = g.M.Words in
    let vs = values (W.world c.args.machine.now) c.args.d in
    let there : c.loop-index.index < length vs = omega (arith, c.loop-index-test.true, c.value_count-index-end.ensures.value) in
    value_added vs c.loop-index.index c.value.result _ c.args.out.now c.loop-index.out c.put_value.new.out there c.value.ensures c.loop-index.invariant c.put_value.ensures
