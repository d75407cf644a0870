use Rattle.std.proofs.Common.{refl, arith}
use Rattle.fmp_codes.specs.declared.kinds.ObjectKind.TheVariants as objects
use Rattle.fmp_fact_words.proofs.reading.task_in.Goals as goal

pub overflow_cast-number : goal.overflow_cast-number
overflow_cast-number c = let most = c.in_ok-number.ensures.most objects.Task refl in omega (arith, most)

pub new-requires-clause-in_range : goal.new-requires-clause-in_range
new-requires-clause-in_range c = c.in_ok-number.ensures.most objects.Task refl
