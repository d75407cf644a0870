-- The change of the running task and the requests that a record tells, by the records before it and the rest of the record.
use Rattle.std.specs.Prelude.{◌≡◌, Bool, not, ◌&&◌, ◌==◌, Option, None, Some, List, if◌then◌else◌, filter, map}
use Rattle.std.specs.List.{range_with_len}
use Rattle.fmp_codes.specs.Numbers.{as_proc}
use Rattle.fmp_codes.specs.Records.{processor_of}
use Rattle.fmp_codes.specs.declared.numbers.Proc.{Proc}
use Rattle.fmp_codes.specs.declared.numbers.Task.{Task}
use Rattle.fmp_codes.specs.declared.records.Record.{Record}
use Rattle.fmp_setup.specs.Setup.{Setup}
use Rattle.fmp_law_records.specs.Requests.{is_held_reported, came_to_end, processor_after, report_processor}
use Rattle.fmp_law_records.specs.Standing.{standing_after, report_standing, top_reported}
use Rattle.fmp_law_records.specs.Tops.{is_one_task, changes_top}
use Rattle.fmp_law_records.specs.Refusals.Callers.{report_running}

-- an event that comes to its end, and leaves its processor not held, makes it run this top where it ran another task or none
abbrev pub change_to : Bool → Bool → Option Task → Option Task → Option (Option Task)
change_to ended held before top = if ended && (not held && not (is_one_task before top)) then Some top else None

module _ (c : Setup) (records : List Record) (r : Record) where
  abbrev pub change_reported : Option (Option Task)
  change_reported =
      let p : Proc = processor_of r.event in
      change_to (came_to_end r.runner r.answer r.event) (is_held_reported (processor_after c p r (report_processor c p records)))
      (report_running c p records) (top_reported c (standing_after c r (report_standing c records)) p)

  -- each other processor whose top changes, in ascending order
  abbrev pub gets_request : Proc → Bool
  gets_request p = not (p.number == (processor_of r.event).number) && changes_top c (report_standing c records) r p

  abbrev pub requests_reported : List Proc
  requests_reported = filter gets_request (map as_proc (range_with_len 1 c.processors))

-- where these are the records before it, a record tells just this change of its running task and just these requests
pub record IsRunChangeReported (c : Setup) (records : List Record) (r : Record) : Type 0 where
  pub run_change : r.run_change ≡ change_reported c records r
  pub requests : r.requests ≡ requests_reported c records r
