-- believed: see docs/PROOF.md, "What has to be believed"
-- What a call does besides changing the state.
use Rattle.std.specs.Prelude.{ℤ, ◌≡◌, ◌⊎◌, Option, List, [], ◌++◌}
use Rattle.fmp_codes.specs.declared.records.Answer.{Answer}
use Rattle.fmp_codes.specs.declared.records.Release.{Release}

-- its answer, the waits that it ended in order, and a value that it overwrote
pub record Effect : Type 0 where
  pub answer : Answer
  pub releases : List Release
  pub lost : Option ℤ

-- an effect whose releases come after these
abbrev pub adding : List Release → Effect → Effect
adding rs e = record e { releases = rs ++ e.releases }

-- the waits that ended are told by these or by the effect, and not by both
abbrev pub TellsOnce : List Release → Effect → Type 0
TellsOnce rs e = (rs ≡ []) ⊎ (e.releases ≡ [])
