-- A task or none by a number.
use Rattle.std.specs.Prelude.{ℕ, ◌≤◌, ◌==◌, Option, None, Some, List, slice_index, if◌then◌else◌}
use Rattle.fmp_codes.specs.Numbers.{as_task}
use Rattle.fmp_codes.specs.declared.numbers.Task.{Task}

-- the task of a number from 1, and none of 0
abbrev pub numbered : ℕ → Option Task
numbered n = if n == 0 then None else Some (as_task n)

-- these are numbers of tasks or 0, of which those of at most 8 processors count
pub record AreNumbers (numbers : List ℕ) (count : ℕ) : Type 0 where
  pub few : count ≤ 8
  pub tasks : (k : ℕ) → slice_index numbers k ≤ 64
