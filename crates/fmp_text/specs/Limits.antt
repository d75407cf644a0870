-- believed: see docs/PROOF.md, "What has to be believed"
-- How much an event text or a trace may hold.
use Rattle.std.specs.Prelude.{ℕ}

-- the greatest number of bytes
abbrev pub most_bytes : ℕ
most_bytes = 1073741824

-- the greatest number of events
abbrev pub most_events : ℕ
most_events = 1000000
