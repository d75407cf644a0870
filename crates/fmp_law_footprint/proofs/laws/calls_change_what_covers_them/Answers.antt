use Rattle.fmp_rules.specs.Arrivals.{numbered}
use Rattle.fmp_law_footprint.specs.Footprints.{Within}
use Rattle.fmp_law_footprint.specs.Numbers.{Numbers, numbers, Anywhere}
use Rattle.fmp_law_footprint.proofs.Numbered.{numbered_is_local}
use Rattle.fmp_law_footprint.proofs.Calls.{moves_call}
use Rattle.fmp_law_footprint.proofs.laws.calls_change_what_covers_them.Goals as goal

pub returns : goal.returns
returns c = λ f w p c s h. moves_call Numbers numbers (Within f) Anywhere numbered (numbered_is_local (Within f) s.next) w p c h
