use Rattle.fmp_kernel_order.specs.Queues.{listed}
use Rattle.fmp_law_footprint.specs.Footprints.{Within}
use Rattle.fmp_law_lists.specs.Lists.{Lists, lists}
use Rattle.fmp_law_lists.proofs.ListsRead.{listed_reads}
use Rattle.fmp_law_lists.proofs.AlikeCalls.{call_alike}
use Rattle.fmp_law_lists.proofs.AlikeOthers.{row_alike}
use Rattle.fmp_law_lists.proofs.footprints.calls_do_what_they_read.Goals as goal

pub returns : goal.returns
returns c = λ f v w p c own g h. call_alike Lists lists (Within f) v w p own g _ _ (row_alike Lists lists (Within f) listed (listed_reads (Within f)) v w p own g c h)
