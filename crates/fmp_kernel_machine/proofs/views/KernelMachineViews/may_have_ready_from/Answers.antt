use Rattle.std.proofs.Common.{◌-◌, arith}
use Rattle.fmp_kernel_machine.proofs.WordBits.{none_over}
use Rattle.fmp_kernel_machine.proofs.views.KernelMachineViews.may_have_ready_from.Goals as goal

pub returns : goal.returns
returns c = λ no x le. let next = c.index.ensures.next in none_over c.ready_word.result c.index.result (x.number - 1) _ no (omega (arith, next, le)) (c.ready_word.ensures x)
