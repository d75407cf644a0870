-- Numerals.
use Rattle.std.specs.Prelude.{ℕ, ◌-◌, ◌^◌, List, Option, Some, None, option_and_then, unwrap_or, if◌then◌else◌}
use Rattle.fmp_bytes.specs.Numerals.{number_of}

-- decimal digits without a leading zero, or `0x` and hexadecimal digits; what is 2^64 or more counts as the number before that
unfoldable pub numeral : List ℕ → Option ℕ
numeral text = option_and_then (λ n. if n.zero_led then None else Some (unwrap_or n.magnitude (2 ^ 64 - 1))) (number_of text)
