use Rattle.fmp_run_wave.specs.Listing.{line}
use Rattle.fmp_run_wave.proofs.Counted.{grown, nothing_yet}
use Rattle.fmp_run_wave.proofs.listing.put_lines.Goals as goal

pub loop-index-init : goal.loop-index-init
loop-index-init c = nothing_yet (line c.args.form c.args.names.now c.args.signal) c.args.out.now

pub loop-index-preserved : goal.loop-index-preserved
loop-index-preserved c = grown (line c.args.form c.args.names.now c.args.signal) c.loop-index.index c.args.out.now c.loop-index.out _ c.loop-index.invariant c.put_line.ensures
