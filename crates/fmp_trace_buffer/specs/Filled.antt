-- The room of a buffer of lines.
use Rattle.std.specs.Prelude.{ℕ, ◌+◌, ◌≤◌, List, length}

-- how many bytes a buffer has
abbrev pub buffer_bytes : ℕ
buffer_bytes = 75968

-- from so many bytes on it is full; with fewer it has room for a line
abbrev pub full_bytes : ℕ
full_bytes = 65536

-- a buffer with this text has room for a further one, and for the 32 bytes that are written at once at most
abbrev pub HasRoom : List ℕ → List ℕ → Type 0
HasRoom filled text = length filled + length text + 32 ≤ buffer_bytes
