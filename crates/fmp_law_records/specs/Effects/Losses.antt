-- Which value a record tells as lost, by the records before it.
use Rattle.std.specs.Prelude.{◌≡◌, ℤ, not, ◌&&◌, Option, None, List, [], slice_get, if◌then◌else◌, length, drop, flat_map}
use Rattle.fmp_codes.specs.declared.numbers.Object.{Object}
use Rattle.fmp_codes.specs.declared.calls.Call.TheVariants as call
use Rattle.fmp_codes.specs.declared.calls.BufferCall.TheVariants as buffer
use Rattle.fmp_codes.specs.declared.records.Answer.{Answer}
use Rattle.fmp_codes.specs.declared.records.Event.{Event}
use Rattle.fmp_codes.specs.declared.records.Event.TheVariants as event
use Rattle.fmp_codes.specs.declared.records.Record.{Record}
use Rattle.fmp_setup.specs.Setup.{Setup}
use Rattle.fmp_law_balance.specs.Accepted.{is_accepted}
use Rattle.fmp_law_balance.specs.Queues.{puts, out_by}
use Rattle.fmp_law_records.specs.Refusals.Meanings.{object_of}
use Rattle.fmp_law_records.specs.Refusals.Found.{found_reported, takes_value}

-- the values that these records put into a data queue and did not take out, the oldest first
abbrev pub values_reported : List Record → Object → List ℤ
values_reported records d = drop (length (flat_map (out_by d) records)) (puts d [] records)

abbrev pub oldest : List ℤ → Option ℤ
oldest vs = slice_get vs 0

module _ (c : Setup) (records : List Record) where
  -- an accepted send by force to a data queue that takes no value, since nobody waits to receive and each place has one, loses the oldest
  abbrev pub lost_in : Object → Answer → Option ℤ
  lost_in d a = if is_accepted a && not (takes_value c (found_reported c records) d) then oldest (values_reported records d) else None

  -- no other event loses any
  abbrev pub lost_reported : Answer → Event → Option ℤ
  lost_reported a (event.Call p (call.Buffer (buffer.FsndDtq id v))) = lost_in (object_of id) a
  lost_reported a (event.Call p (call.Buffer (buffer.IfsndDtq id v))) = lost_in (object_of id) a
  lost_reported a other = None

abbrev pub IsLossReported : Setup → List Record → Record → Type 0
IsLossReported c records r = r.lost ≡ lost_reported c records r.answer r.event
