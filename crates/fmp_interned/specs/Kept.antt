-- A list of values and a table of their numbers.
use Rattle.std.specs.Prelude.{ℕ, ◌<◌, ◌^◌, List, length, map}
use Rattle.fmp_interned.specs.Tables.{Holds}
use Rattle.fmp_interned.specs.Values.{AreDistinct}

-- each value stands once in a list, and a table has its number by its hash
pub record IsKept {V : Type 0} (hashed : V → ℕ) (values : List V) (slots : List ℕ) : Type 0 where
  pub few : length values < 2 ^ 32
  pub holds : Holds slots (map hashed values)
  pub distinct : AreDistinct values
