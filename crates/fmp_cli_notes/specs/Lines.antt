-- A line that is told.
use Rattle.std.specs.Prelude.{◌≡◌, ℕ, false, List, ◌++◌, codes}
use Rattle.fmp_out.specs.Putting.{Putting}

-- a line was told behind the others, with a line feed, or memory was wanting for one of them
abbrev pub Tells : Putting → Putting → Putting → Type 0
Tells line old new = new.wanting ≡ false → (line.wanting ≡ false) × (old.wanting ≡ false) × (new.bytes ≡ old.bytes ++ (line.bytes ++ codes "\n"))

-- how a line begins that is about this
abbrev pub head : List ℕ → List ℕ
head asked = codes "fmpsim: " ++ asked ++ codes ": "
