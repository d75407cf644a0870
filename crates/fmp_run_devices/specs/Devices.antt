-- What devices do.
use Rattle.std.specs.Prelude.{◌≡◌, ◌≤◌, ℕ, zero, suc, Bool, true, false, List, [], ◌++◌, ◌==◌, ◌&&◌, nat_lt, length, take, is_some, IsTrue, Option, None, Some, Result}
use Rattle.std.specs.Prelude.{Ok, Err}
use Rattle.fmp_run_devices.specs.declared.whole.ReadFault.{ReadFault}
use Rattle.fmp_run_devices.specs.declared.whole.ReadFault.TheVariants.{Failed, Memory}

-- the bytes of a device are known: what it has left to read, or what was written to it
abbrev pub IsKnown : Option (List ℕ) → Type 0
IsKnown known = IsTrue (is_some known)

-- these bytes, where they are known
abbrev pub bytes_of : Option (List ℕ) → List ℕ
bytes_of None = []
bytes_of (Some bytes) = bytes

-- a write failed: it answered an error, or 0 for a piece that is not empty
abbrev pub is_failed_write : {E : Type 0} → Result ℕ E → List ℕ → Bool
is_failed_write (Ok n) piece = (n == 0) && nat_lt 0 (length piece)
is_failed_write (Err e) piece = true

-- old, and then a prefix of the bytes
abbrev pub BeginsWith : List ℕ → List ℕ → List ℕ → Type 0
BeginsWith old bytes new = (n : ℕ) × (new ≡ old ++ take n bytes)

-- text was read and rest is left; nothing is, unless the text is longer than the limit
pub record ReadUpTo (limit : ℕ) (all text rest : List ℕ) : Type 0 where
  pub prefix : all ≡ text ++ rest
  pub whole : length text ≤ limit → rest ≡ []

abbrev pub is_failure : ReadFault → Bool
is_failure Failed = true
is_failure Memory = false

-- a call of the device failed
abbrev pub is_read_failure : {T : Type 0} → Result T ReadFault → Bool
is_read_failure (Ok t) = false
is_read_failure (Err e) = is_failure e

-- the call after so many others is to fail, and this is the one
abbrev pub is_turn : Option ℕ → Bool
is_turn None = false
is_turn (Some zero) = true
is_turn (Some (suc n)) = false

-- how many calls are left before the one that fails
abbrev pub next_turn : Option ℕ → Option ℕ
next_turn None = None
next_turn (Some zero) = None
next_turn (Some (suc n)) = Some n
