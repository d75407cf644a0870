use Rattle.fmp_rules.specs.Arrivals.{numbered}
use Rattle.fmp_law_safety.proofs.Refusals.{only_dispatches}
use Rattle.fmp_law_safety.proofs.laws.refusals_only_dispatch.Goals as goal

pub returns : goal.returns
returns c = only_dispatches numbered
