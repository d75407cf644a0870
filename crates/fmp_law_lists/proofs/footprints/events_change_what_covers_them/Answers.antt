use Rattle.fmp_kernel_order.specs.Queues.{listed}
use Rattle.fmp_law_footprint.specs.Footprints.{Within}
use Rattle.fmp_law_lists.specs.Lists.{Lists, lists, StandsInside}
use Rattle.fmp_law_lists.proofs.Listed.{listed_is_local, listed_tells}
use Rattle.fmp_law_footprint.proofs.Steps.{moves_step}
use Rattle.fmp_law_lists.proofs.footprints.events_change_what_covers_them.Goals as goal

pub returns : goal.returns
returns c = λ f w e shape h. moves_step Lists lists (Within f) (StandsInside (Within f)) listed (listed_is_local (Within f)) (listed_tells (Within f)) shape w e h
