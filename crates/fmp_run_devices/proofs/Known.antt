-- What a read and a write do to bytes that are known.
use Rattle.std.proofs.Common.{◌≡◌, ℕ, List, ◌++◌, take, refl, Option, None, Some, Result, Ok, Err}
use Rattle.std.specs.Io.KnownBytes.{Keeps, Appends, Consumes, WriteAppends}
use Rattle.std.proofs.lemmas.Bool.{false≢true}
use Rattle.fmp_run_devices.specs.Devices.{IsKnown, bytes_of}

-- Where nothing is read or written.

pub kept_known : (old new : Option (List ℕ)) → Keeps old new → IsKnown old → IsKnown new
kept_known None new h known = absurd (false≢true known)
kept_known (Some xs) None h known = absurd h
kept_known (Some xs) (Some ys) h known = refl

pub kept_bytes : (old new : Option (List ℕ)) → Keeps old new → IsKnown old → bytes_of new ≡ bytes_of old
kept_bytes None new h known = absurd (false≢true known)
kept_bytes (Some xs) None h known = absurd h
kept_bytes (Some xs) (Some ys) h known = h

-- After a write.

pub written_bytes : (old new : Option (List ℕ)) (piece : List ℕ) → Appends old new piece → IsKnown old → bytes_of new ≡ bytes_of old ++ piece
written_bytes None new piece h known = absurd (false≢true known)
written_bytes (Some xs) None piece h known = absurd h
written_bytes (Some xs) (Some ys) piece h known = h

written_known : (old new : Option (List ℕ)) (piece : List ℕ) → Appends old new piece → IsKnown old → IsKnown new
written_known None new piece h known = absurd (false≢true known)
written_known (Some xs) None piece h known = absurd h
written_known (Some xs) (Some ys) piece h known = refl

pub write_known : {E : Type 0} (old new : Option (List ℕ)) (r : Result ℕ E) (piece : List ℕ) → WriteAppends old new r piece → IsKnown old → IsKnown new
write_known old new (Ok n) piece h known = written_known old new (take n piece) h known
write_known old new (Err e) piece h known = kept_known old new h known

-- After a read.

pub read_bytes : (old new : Option (List ℕ)) (piece : List ℕ) → Consumes old new piece → IsKnown old → bytes_of old ≡ piece ++ bytes_of new
read_bytes None new piece h known = absurd (false≢true known)
read_bytes (Some xs) None piece h known = absurd h
read_bytes (Some xs) (Some ys) piece h known = h

pub consumed_known : (old new : Option (List ℕ)) (piece : List ℕ) → Consumes old new piece → IsKnown old → IsKnown new
consumed_known None new piece h known = absurd (false≢true known)
consumed_known (Some xs) None piece h known = absurd h
consumed_known (Some xs) (Some ys) piece h known = refl
