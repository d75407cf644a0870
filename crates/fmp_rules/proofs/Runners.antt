-- A place has the same task as itself.
use Rattle.std.proofs.Common.{◌≡◌, true, Option, Some, None, refl}
use Rattle.std.proofs.lemmas.Bool.{eq-eqb}
use Rattle.fmp_codes.specs.declared.numbers.Task.{Task}
use Rattle.fmp_rules.specs.Step.{is_same}

pub same_as_itself : (o : Option Task) → is_same o o ≡ true
same_as_itself None = refl
same_as_itself (Some t) = eq-eqb t.number t.number refl
