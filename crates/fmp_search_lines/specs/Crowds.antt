-- Lines at which too many are open.
use Rattle.std.specs.Prelude.{◌≡◌, ℕ, ◌<◌, leb, Option, None, Some, List, [], ◌∷◌, length, if◌then◌else◌}
use Rattle.fmp_search_lines.specs.Orders.{AreOpen, FewOpen}

-- at a line one more is open than may be pending
abbrev pub IsCrowded : (ℕ → ℕ) → ℕ → Type 0
IsCrowded last j = (lines : List ℕ) × AreOpen last j lines × (length lines ≡ 17)

-- and it is the first such line
abbrev pub IsFirstCrowded : (ℕ → ℕ) → ℕ → ℕ → Type 0
IsFirstCrowded last count j = (j < count) × IsCrowded last j × FewOpen last j

-- the first such line, if there is one
abbrev pub SaysCrowded : (ℕ → ℕ) → ℕ → Option ℕ → Type 0
SaysCrowded last count None = FewOpen last count
SaysCrowded last count (Some j) = IsFirstCrowded last count j

-- those of these lines that may come after line j
unfoldable pub still_open : (ℕ → ℕ) → ℕ → List ℕ → List ℕ
still_open last j [] = []
still_open last j (i ∷ is) = if leb j (last i) then (i ∷ still_open last j is) else still_open last j is
