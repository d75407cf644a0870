use Rattle.fmp_plain_machine.proofs.NoneReady.{no_tops}
use Rattle.fmp_plain_machine.proofs.tops.Tasks.of.Goals as goal

pub invariant_of-result : goal.invariant_of-result
invariant_of-result c = rw (c.each-records.ensures, c.none.ensures) (no_tops c.args.setups.now c.each-ready.result.items)
