-- What a question sees of an event: its line of a trace, what is so of the state after it, and whether anything can change any more.
use Rattle.std.specs.Prelude.{ℕ, Bool, List}
use Rattle.fmp_facts.specs.Asking.{Asked}

pub record Sight : Type 0 where
  pub line : List ℕ  -- without the number, and with two blanks before and after it
  pub is_so : Asked → Bool
  pub over : Bool
