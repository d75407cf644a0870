-- The numbers that texts write.
use Rattle.std.specs.Prelude.{◌≡◌, ◌<◌, ◌^◌, ℕ, Option, Some, None}
use Rattle.std.specs.Option.{SomeIff}
use Rattle.std.specs.Str.Parse.{IsNumeral, digits_value, without_leading_plus}
use Rattle.clap.specs.Words.{Text}

-- the number that the digits of a text write, where a plus may stand first
abbrev pub number_of : Text → ℕ
number_of t = digits_value 10 (without_leading_plus t)

-- the number of a text that may be missing: none without a text, and else what it writes, where that has 64 bits
abbrev pub IsNumberIn : Option Text → Option ℕ → Type 0
IsNumberIn None n = n ≡ None
IsNumberIn (Some t) n = SomeIff n (IsNumeral 10 (without_leading_plus t) × (number_of t < 2 ^ 64)) (number_of t)
