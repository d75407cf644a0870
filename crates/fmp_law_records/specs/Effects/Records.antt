-- What the records before an event tell of its record: all of it. And runs that are told so, each record by those before it.
use Rattle.std.specs.Prelude.{◌≡◌, List, ◌∷◌, ◌++◌, map}
use Rattle.fmp_codes.specs.declared.records.Event.{Event}
use Rattle.fmp_codes.specs.declared.records.Record.{Record}
use Rattle.fmp_setup.specs.Setup.{Setup}
use Rattle.fmp_law_records.specs.Refusals.Callers.{IsCallerReported}
use Rattle.fmp_law_records.specs.Refusals.Outcomes.{IsAnswerReported}
use Rattle.fmp_law_records.specs.Effects.RunChanges.{IsRunChangeReported}
use Rattle.fmp_law_records.specs.Effects.Losses.{IsLossReported}
use Rattle.fmp_law_records.specs.Effects.Releases.{AreReleasesReported}
use Rattle.fmp_law_records.specs.Effects.Received.{IsReceivedReported}

-- where these are the records before it, a record is as they tell
pub record IsReported (c : Setup) (records : List Record) (r : Record) : Type 0 where
  pub caller : IsCallerReported c records r
  pub answer : IsAnswerReported c records r
  pub received : IsReceivedReported c records r
  pub releases : AreReleasesReported c records r
  pub lost : IsLossReported c records r
  pub changes : IsRunChangeReported c records r

-- wherever these records go on with a record, it is as those before it tell
abbrev pub AreReported : Setup → List Record → Type 0
AreReported c records = (before : List Record) (r : Record) (after : List Record) → records ≡ before ++ r ∷ after → IsReported c before r

-- these are records of these events, each as those before it tell
pub record IsReportedRun (c : Setup) (events : List Event) (records : List Record) : Type 0 where
  pub answered : map (λ r. r.event) records ≡ events
  pub reported : AreReported c records
