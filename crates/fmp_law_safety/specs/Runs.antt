-- believed: see docs/PROOF.md, "What has to be believed"
-- Lists of events on the processors of a machine.
use Rattle.std.specs.Prelude.{ℕ, List, take}
pub use Rattle.fmp_codes.specs.Records.{processor_of, AreOn}
use Rattle.fmp_codes.specs.declared.records.Event.{Event}
use Rattle.fmp_rules.specs.Arrivals.{State, numbered}
use Rattle.fmp_rules.specs.Step.{replay}
use Rattle.fmp_law_safety.specs.Safe.{Safe}

-- every prefix of the list leads to a safe state
abbrev pub IsSafeThroughout : State → List Event → Type 0
IsSafeThroughout m events = (n : ℕ) → Safe numbered (replay numbered m (take n events))
