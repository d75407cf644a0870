-- What was written to a writer of std after a buffer.
use Rattle.std.specs.Prelude.{ℕ, List, Option, Some}
use Rattle.std.specs.declared.io.buffered.BufWriter.{BufWriter}
use Rattle.std.specs.Io.Buffered.{writer_contents}
use Rattle.fmp_run_devices.specs.declared.taking.KnownWriter.{KnownWriter}

-- what the writer took, and what is held back
abbrev pub written_through : {W A : Type 0} → BufWriter (KnownWriter W) A → Option (List ℕ)
written_through = writer_contents (λ k. Some k.taken.bytes)
