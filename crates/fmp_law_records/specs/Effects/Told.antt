-- The records of events as a function of these alone: each is made of what the records before it tell, and no machine is asked.
use Rattle.std.specs.Prelude.{None, List, [], ◌∷◌, ◌++◌}
use Rattle.fmp_codes.specs.declared.records.Event.{Event}
use Rattle.fmp_codes.specs.declared.records.Record.{Record}
use Rattle.fmp_setup.specs.Setup.{Setup}
use Rattle.fmp_law_safety.specs.Runs.{processor_of}
use Rattle.fmp_law_records.specs.Refusals.Callers.{report_caller}
use Rattle.fmp_law_records.specs.Refusals.Outcomes.{answer_reported}
use Rattle.fmp_law_records.specs.Effects.RunChanges.{change_reported, requests_reported}
use Rattle.fmp_law_records.specs.Effects.Losses.{lost_reported}
use Rattle.fmp_law_records.specs.Effects.Releases.{releases_reported}
use Rattle.fmp_law_records.specs.Effects.Received.{received_reported}

-- the record of an event where these are the records before it: who makes it, what it answers, whom it releases and what it loses, and
-- then, by these, what its processor runs and to whom it sends requests
abbrev pub record_told : Setup → List Record → Event → Record
record_told c records e =
    let runner = report_caller c (processor_of e) records in
    let answer = answer_reported c records runner (received_reported c records e) e in
    let did : Record = record {
      event = e;
      runner = runner;
      answer = answer;
      releases = releases_reported c records runner answer e;
      lost = lost_reported c records answer e;
      run_change = None;
      requests = [];
    } in record did { run_change = change_reported c records did; requests = requests_reported c records did }

-- the records of these events where those are the records before them
abbrev pub run_told : Setup → List Record → List Event → List Record
run_told c before [] = []
run_told c before (e ∷ es) = let r = record_told c before e in r ∷ run_told c (before ++ r ∷ []) es
