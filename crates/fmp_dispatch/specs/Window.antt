-- The part of a ring that holds a queue.
use Rattle.std.specs.Prelude.{ℕ, List, ◌++◌, take, drop}

-- the n slots from k on, around the end
abbrev pub window : {X : Type 0} → ℕ → ℕ → List X → List X
window k n xs = take n (drop k xs ++ take k xs)
