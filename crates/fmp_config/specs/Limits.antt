-- believed: see docs/PROOF.md, "What has to be believed"
-- How much a configuration text may hold.
use Rattle.std.specs.Prelude.{ℕ}

-- the greatest number of bytes
abbrev pub most_bytes : ℕ
most_bytes = 1048576
