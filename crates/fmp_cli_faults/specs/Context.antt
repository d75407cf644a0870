-- The words of a command line that say whether what stands beside a fault is shown.
use Rattle.std.specs.Prelude.{ℕ, ◌||◌, Bool, String, List, not, filter, codes}
use Rattle.std.specs.Global.{Global}
use Rattle.std.specs.Str.{bytes_eq}

abbrev pub is_context : List ℕ → Bool
is_context word = bytes_eq word (codes "--context") || bytes_eq word (codes "--no-context")

-- all words but these, in their order
abbrev pub others : List (String Global) → List (String Global)
others words = filter (λ word. not (is_context word.bytes.items)) words
