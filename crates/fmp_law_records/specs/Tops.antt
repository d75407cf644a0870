-- To which processors a record sends a request, and who begins to run, by the tops that the records tell.
use Rattle.std.specs.Prelude.{◌≡◌, ◌≤◌, Bool, true, false, not, ◌&&◌, ◌==◌, Option, None, Some}
use Rattle.fmp_codes.specs.declared.numbers.Proc.{Proc}
use Rattle.fmp_codes.specs.declared.numbers.Task.{Task}
use Rattle.fmp_codes.specs.declared.records.Record.{Record}
use Rattle.fmp_codes.specs.Records.{processor_of}
use Rattle.fmp_setup.specs.Setup.{Setup}
use Rattle.fmp_law_records.specs.Requests.{is_among}
use Rattle.fmp_law_records.specs.Standing.{Standing, standing_after, top_reported}

-- the same task, or none in both places
abbrev pub is_one_task : Option Task → Option Task → Bool
is_one_task None None = true
is_one_task (Some t) (Some u) = t.number == u.number
is_one_task x y = false

-- the top of p is another one after a record than before it
abbrev pub changes_top : Setup → Standing → Record → Proc → Bool
changes_top c before r p = not (is_one_task (top_reported c before p) (top_reported c (standing_after c r before) p))

-- where all stood so before a record, it sends p a request just where p is not the processor of its event and the top of p changes;
-- and the processor of its event begins to run nobody but its top
pub record RequestsAreDue (c : Setup) (before : Standing) (r : Record) : Type 0 where
  pub sent : (p : Proc) → p.number ≤ c.processors → is_among p r.requests ≡ (not (p.number == (processor_of r.event).number) && changes_top c before r p)
  pub begun : (now : Option Task) → r.run_change ≡ Some now → now ≡ top_reported c (standing_after c r before) (processor_of r.event)
