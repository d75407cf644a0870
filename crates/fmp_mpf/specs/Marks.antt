-- The marks of 64 blocks in a word: a bit for each, the lowest for block 0, set where the block is handed out.
use Rattle.std.specs.Prelude.{ℕ, ◌+◌, ◌*◌, ◌==◌, Bool, List, [], ◌∷◌, map, if◌then◌else◌}
use Rattle.std.specs.List.{range_with_len}
use Rattle.std.specs.Int.{bit_at}

abbrev pub is_set : ℕ → ℕ → Bool
is_set word i = bit_at word i == 1

-- the word that has these marks
abbrev pub word_of : List Bool → ℕ
word_of [] = 0
word_of (b ∷ bs) = (if b then 1 else 0) + 2 * word_of bs

unfoldable pub marks : ℕ → List Bool
marks word = map (is_set word) (range_with_len 0 64)
