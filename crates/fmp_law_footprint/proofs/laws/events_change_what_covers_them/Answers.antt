use Rattle.fmp_rules.specs.Arrivals.{numbered}
use Rattle.fmp_law_footprint.specs.Footprints.{Within}
use Rattle.fmp_law_footprint.specs.Numbers.{Numbers, numbers, Anywhere}
use Rattle.fmp_law_footprint.proofs.Numbered.{numbered_is_local}
use Rattle.fmp_law_footprint.proofs.Tops.{numbered_tells}
use Rattle.fmp_law_footprint.proofs.Steps.{moves_step}
use Rattle.fmp_law_footprint.proofs.laws.events_change_what_covers_them.Goals as goal

pub returns : goal.returns
returns c = λ f w e s h. moves_step Numbers numbers (Within f) Anywhere numbered (numbered_is_local (Within f) s.next) (numbered_tells (Within f) s) s.shape w e h
