use Rattle.fmp_kernel_order.specs.Queues.{listed}
use Rattle.fmp_law_lists.proofs.Abouts.{about_closed, about_own, about_settles, about_covers, about_reads, tick_covers, tick_reads}
use Rattle.fmp_law_lists.proofs.footprints.cells_of_events_are_enough.Goals as goal

pub returns-clause-closed : goal.returns-clause-closed
returns-clause-closed c = about_closed

pub returns-clause-own : goal.returns-clause-own
returns-clause-own c = about_own

pub returns-clause-settles : goal.returns-clause-settles
returns-clause-settles c = about_settles

pub returns-clause-covers : goal.returns-clause-covers
returns-clause-covers c = about_covers listed

pub returns-clause-reads : goal.returns-clause-reads
returns-clause-reads c = about_reads listed

pub returns-clause-tick_covers : goal.returns-clause-tick_covers
returns-clause-tick_covers c = tick_covers listed

pub returns-clause-tick_reads : goal.returns-clause-tick_reads
returns-clause-tick_reads c = tick_reads listed
