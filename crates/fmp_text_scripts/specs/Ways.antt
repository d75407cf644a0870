-- Ways: where a script goes on after a call, by the answer to it.
use Rattle.std.specs.Prelude.{ℕ, ℤ, ◌==◌, min, Bool, true, false, not, ◌&&◌, List, Option, None, Some, find}
use Rattle.std.specs.Ordering.{int_eq}
use Rattle.fmp_codes.specs.Codes.{number_of}
use Rattle.fmp_codes.specs.declared.codes.Code.{Code}
use Rattle.fmp_codes.specs.declared.codes.Code.TheVariants as codes
use Rattle.fmp_text_scripts.specs.declared.ways.Pattern.{Pattern}
use Rattle.fmp_text_scripts.specs.declared.ways.Pattern.TheVariants as pattern
use Rattle.fmp_text_scripts.specs.declared.ways.Way.{Way}

-- the greatest number of steps of a script
abbrev pub most_steps : ℕ
most_steps = 256

-- the greatest number of labels of a script, and of ways
abbrev pub most_labels : ℕ
most_labels = 256

abbrev pub most_ways : ℕ
most_ways = 1024

-- the same code, told by its number
abbrev pub is_code : Code → Code → Bool
is_code a b = int_eq (number_of a) (number_of b)

-- this value, if there is one
abbrev pub is_value : ℤ → Option ℤ → Bool
is_value v None = false
is_value v (Some w) = int_eq w v

-- an answer of this code and value is one of those that a pattern is for: all of them, all errors, those of a code, or those of a code with a value
abbrev pub fits : Pattern → Code → Option ℤ → Bool
fits pattern.Any code value = true
fits pattern.Refused code value = not (is_code code codes.Accepted)
fits (pattern.Coded c) code value = is_code code c
fits (pattern.Valued c v) code value = is_code code c && is_value v value

-- a way leads on from after the n-th call, where that answered so
abbrev pub leads : ℕ → Code → Option ℤ → Way → Bool
leads n code value w = (w.after == n) && fits w.answer code value

-- where a way goes to, and without one straight on. No step and no end of a script has a greater number than its steps may be
abbrev pub place_of : ℕ → Option Way → ℕ
place_of n None = n
place_of n (Some w) = min w.to most_steps

-- where a script goes on that has come after its n-th call, which answered so: the first way that fits says it
unfoldable pub onward : List Way → ℕ → Code → Option ℤ → ℕ
onward ways n code value = place_of n (find (leads n code value) ways)
