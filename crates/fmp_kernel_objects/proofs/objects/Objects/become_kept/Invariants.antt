use Rattle.fmp_kernel_objects.proofs.Numbered.{AreBecoming}
use Rattle.fmp_kernel_objects.proofs.objects.Objects.become_kept.Given as goal

abbrev pub invariant-loop-at : goal.invariant-loop-at
invariant-loop-at g l = AreBecoming g.T.Part.fits l.kept l.numbers l.at l.self-inside.items.items
