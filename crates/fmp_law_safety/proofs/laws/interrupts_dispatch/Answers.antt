use Rattle.fmp_rules.specs.Arrivals.{numbered}
use Rattle.fmp_law_safety.proofs.Listed.{numbered_lists}
use Rattle.fmp_law_safety.proofs.Interrupts.{finds_nothing, takes_request, runs_top}
use Rattle.fmp_law_safety.proofs.laws.interrupts_dispatch.Goals as goal

pub returns-clause-nothing : goal.returns-clause-nothing
returns-clause-nothing c = finds_nothing numbered

pub returns-clause-taken : goal.returns-clause-taken
returns-clause-taken c = (λ m. takes_request numbered m numbered_lists)

pub returns-clause-top : goal.returns-clause-top
returns-clause-top c = (λ m. runs_top numbered m numbered_lists)
