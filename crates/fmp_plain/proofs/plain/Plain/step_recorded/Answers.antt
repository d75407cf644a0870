use Rattle.fmp_rules.specs.Arrivals.{numbered}
use Rattle.fmp_law_safety.proofs.Interrupts.{made_nothing, made_taken, made_top}
use Rattle.fmp_law_safety.proofs.Listed.{numbered_lists}
use Rattle.fmp_plain.proofs.plain.Plain.step_recorded.Goals as goal

pub returns-clause-nothing : goal.returns-clause-nothing
returns-clause-nothing c = rw (← c.self.view_is) (made_nothing numbered _ numbered_lists _ _ _ c.step_recorded.ensures.step)

pub returns-clause-taken : goal.returns-clause-taken
returns-clause-taken c = rw (← c.self.view_is) (made_taken numbered _ numbered_lists _ _ _ c.step_recorded.ensures.step)

pub returns-clause-top : goal.returns-clause-top
returns-clause-top c = rw (← c.self.view_is) (made_top numbered _ numbered_lists _ _ _ c.step_recorded.ensures.step)
