use Rattle.std.proofs.Common.{◌≡◌, map}
use Rattle.fmp_world.specs.Views.{Seat}
use Rattle.fmp_world.proofs.finishing.receipts_of.Given as goal

abbrev pub invariant-loop-cpu : goal.invariant-loop-cpu
invariant-loop-cpu l = map (λ v. v.items) l.receipts.items ≡ map (λ (s : Seat). s.receipts) l.yielded
