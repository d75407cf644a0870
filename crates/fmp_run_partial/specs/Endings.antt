-- The last line of a text that says at which line of its log the text ends before that.
use Rattle.std.specs.Prelude.{◌≡◌, ℕ, ◌<◌, ◌^◌, ◌⊎◌, List, [], ◌∷◌, ◌++◌, Option, None, Some, codes, decimal}
use Rattle.fmp_bytes.specs.Bytes.{line_feed}
use Rattle.fmp_bytes.specs.Numerals.{number_of, unsigned_limited}
use Rattle.fmp_text.specs.Argument.{◌>>=◌}

-- a text of whole lines
abbrev pub AreLines : List ℕ → Type 0
AreLines text = (text ≡ []) ⊎ ((front : List ℕ) × (text ≡ front ++ line_feed ∷ []))

-- its last line is `ends` and this number, and the body stands before it
pub record EndsAt (text body : List ℕ) (line : ℕ) : Type 0 where
  pub parts : text ≡ body ++ (codes "ends " ++ decimal line) ++ codes "\n"
  pub lines : AreLines body
  pub small : line < 2 ^ 32

-- what stands before such a line, or the whole text, where there is none
abbrev pub IsBody : List ℕ → List ℕ → Option ℕ → Type 0
IsBody text body (Some line) = EndsAt text body line
IsBody text body None = (body ≡ text) × ((front : List ℕ) (line : ℕ) → EndsAt text front line → ⊥)

-- the number of 32 bits that digits spell
unfoldable pub number_in : List ℕ → Option ℕ
number_in digits = do
  number ← number_of digits
  magnitude ← number.magnitude
  unsigned_limited number.negative magnitude
