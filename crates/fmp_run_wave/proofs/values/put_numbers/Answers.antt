use Rattle.fmp_run_wave.specs.Values.{number_line}
use Rattle.fmp_run_wave.proofs.Counted.{grown, nothing_yet}
use Rattle.fmp_run_wave.proofs.values.put_numbers.Goals as goal

pub loop-index-init : goal.loop-index-init
loop-index-init c = nothing_yet (number_line c.args.shown.now c.args.resource) c.args.out.now

pub loop-index-preserved : goal.loop-index-preserved
loop-index-preserved c = grown (number_line c.args.shown.now c.args.resource) c.loop-index.index c.args.out.now c.loop-index.out _ c.loop-index.invariant c.put_number_line.ensures
