-- What was done after other releases.
use Rattle.std.proofs.Common.{ℕ, List, ◌++◌}
use Rattle.fmp_codes.specs.declared.numbers.Task.{Task}
use Rattle.fmp_flag.specs.Eventflags.{EventflagState}

abbrev pub after : List (Task × ℕ) → EventflagState × List (Task × ℕ) → EventflagState × List (Task × ℕ)
after rs did = (did.0, rs ++ did.1)
