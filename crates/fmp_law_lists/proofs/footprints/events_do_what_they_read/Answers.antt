use Rattle.fmp_kernel_order.specs.Queues.{listed}
use Rattle.fmp_law_footprint.specs.Footprints.{Within}
use Rattle.fmp_law_lists.proofs.AlikeSteps.{call_step_alike, ipi_alike}
use Rattle.fmp_law_lists.proofs.AlikeTicks.{tick_step_alike}
use Rattle.fmp_law_lists.specs.Lists.{Lists, lists, StandsInside}
use Rattle.fmp_law_lists.proofs.Listed.{listed_is_local, listed_tells}
use Rattle.fmp_law_lists.proofs.ListsRead.{listed_reads}
use Rattle.fmp_law_lists.proofs.footprints.events_do_what_they_read.Goals as goal

pub returns-clause-calls : goal.returns-clause-calls
returns-clause-calls c = λ f v w p c a h covers also.
    call_step_alike Lists lists f (StandsInside (Within f)) listed (listed_is_local (Within f)) (listed_tells (Within f)) a.shape (listed_reads (Within f)) v w p
    a.own a.before a.other a.agree c h covers also

pub returns-clause-interrupts : goal.returns-clause-interrupts
returns-clause-interrupts c = λ f v w p a.
    ipi_alike Lists lists f (StandsInside (Within f)) listed (listed_is_local (Within f)) (listed_tells (Within f)) a.shape (listed_reads (Within f)) v w p
    a.own a.before a.other a.agree

pub returns-clause-ticks : goal.returns-clause-ticks
returns-clause-ticks c = λ f v w p a h of_v of_w.
    tick_step_alike Lists lists f (StandsInside (Within f)) listed (listed_is_local (Within f)) (listed_tells (Within f)) a.shape (listed_reads (Within f)) v w p
    a.own a.before a.other a.agree h of_v of_w
