use Rattle.fmp_rules.specs.Arrivals.{numbered}
use Rattle.fmp_law_footprint.proofs.OtherKinds.{call_leaves, tick_leaves}
use Rattle.fmp_law_footprint.proofs.laws.other_kinds_stay.Goals as goal

pub returns-clause-calls : goal.returns-clause-calls
returns-clause-calls c = call_leaves numbered

pub returns-clause-ticks : goal.returns-clause-ticks
returns-clause-ticks c = tick_leaves numbered
