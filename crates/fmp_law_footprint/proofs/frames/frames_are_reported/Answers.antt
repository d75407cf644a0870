use Rattle.fmp_rules.specs.Arrivals.{numbered}
use Rattle.fmp_law_footprint.proofs.FramedSteps.{framed_step}
use Rattle.fmp_law_footprint.proofs.frames.frames_are_reported.Goals as goal

pub returns : goal.returns
returns c = λ w e. framed_step numbered w e
