use Rattle.std.proofs.Common.{◌≡◌, vec_len}
use Rattle.fmp_smp.proofs.threaded.make_parkers.Given as goal

abbrev pub invariant-loop : goal.invariant-loop
invariant-loop l = (vec_len l.parkers ≡ l.counter) × (vec_len l.unparkers ≡ l.counter)
