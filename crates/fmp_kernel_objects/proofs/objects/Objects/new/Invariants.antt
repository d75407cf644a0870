use Rattle.std.proofs.Common.{◌≡◌, length, map, take}
use Rattle.fmp_kernel_objects.proofs.objects.Objects.new.Given as goal

abbrev pub invariant-loop-setup : goal.invariant-loop-setup
invariant-loop-setup g l = record { count : length l.items.items ≡ l.setup-index; items : l.items.items ≡ map g.T.Kind.made (take l.setup-index l.setups) }
