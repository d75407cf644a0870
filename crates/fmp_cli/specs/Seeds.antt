-- The seeds of a run that goes through many, and how they are written.
use Rattle.std.specs.Prelude.{◌≡◌, ◌⊎◌, ℕ, Option, Some, None, codes, nat_le, if◌then◌else◌}
use Rattle.std.specs.Str.Pattern.{FindsText, SplitsAroundMatch}
use Rattle.clap.specs.Words.{Text}
use Rattle.fmp_cli.specs.declared.seeds.Seeds.{Seeds}
use Rattle.fmp_cli.specs.declared.seeds.Seeds.TheVariants.{Unasked, Range, Other}
use Rattle.fmp_cli.specs.Numbers.{IsNumberIn}

-- those from one number to another, which is not less
abbrev pub range_of : Option ℕ → Option ℕ → Seeds
range_of None last = Other
range_of (Some a) None = Other
range_of (Some a) (Some b) = if nat_le a b then Range a b else Other

-- none without a text, and of a text those from the number before its first two dots to the number after them
abbrev pub AreSeeds : Option Text → Seeds → Type 0
AreSeeds None seeds = seeds ≡ Unasked
AreSeeds (Some t) seeds =
    (FindsText (codes "..") t None × (seeds ≡ Other))
    ⊎ ((x : Text) × (y : Text) × (first : Option ℕ) × (last : Option ℕ) × SplitsAroundMatch (FindsText (codes "..")) t x y
    × IsNumberIn (Some x) first × IsNumberIn (Some y) last × (seeds ≡ range_of first last))
