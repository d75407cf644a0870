use Rattle.fmp_session.proofs.Runs.{is_at_next}
use Rattle.std.proofs.Common.{refl}
use Rattle.fmp_session.proofs.session.Session.step.Goals as goal

pub returns-clause-at : goal.returns-clause-at
returns-clause-at c = λ config es at. is_at_next _ _ config es _ at refl c.step_into.ensures.stands c.step_into.ensures.record refl
