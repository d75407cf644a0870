-- A line without a byte order mark before it.
use Rattle.std.specs.Prelude.{ℕ, List, Option, option_and_then, unwrap_or}
use Rattle.fmp_bytes.specs.Bytes.{following}

-- what follows a byte order mark in UTF-8, where the line begins with one
unfoldable pub after_mark : List ℕ → Option (List ℕ)
after_mark line = option_and_then (λ rest. option_and_then (following 191) (following 187 rest)) (following 239 line)

-- the line without it
abbrev pub without_mark : List ℕ → List ℕ
without_mark line = unwrap_or (after_mark line) line
