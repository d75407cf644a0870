use Rattle.std.proofs.Common.{◌+◌}
use Rattle.fmp_run_partial.proofs.Lasts.{none_after}
use Rattle.fmp_run_partial.proofs.ending.last_line.Goals as goal

pub returns-in-Some-clause-line : goal.returns-in-Some-clause-line
returns-in-Some-clause-line c = none_after c.args.text.now (c.in-Some.at + 1) (c.in-Some.ensures.0.after)

pub returns-in-None-clause-line : goal.returns-in-None-clause-line
returns-in-None-clause-line c = none_after c.args.text.now 0 c.in-None.ensures
