-- Which value a call receives from a data queue, by the records before it.
use Rattle.std.specs.Prelude.{◌≡◌, ℤ, Bool, true, false, ◌&&◌, Option, None, Some, List}
use Rattle.std.specs.Option.{option_or}
use Rattle.fmp_codes.specs.declared.numbers.Task.{Task}
use Rattle.fmp_codes.specs.declared.numbers.Object.{Object}
use Rattle.fmp_codes.specs.declared.calls.Call.TheVariants as call
use Rattle.fmp_codes.specs.declared.calls.BufferCall.TheVariants as buffer
use Rattle.fmp_codes.specs.declared.records.Event.{Event}
use Rattle.fmp_codes.specs.declared.records.Event.TheVariants as event
use Rattle.fmp_codes.specs.declared.records.Record.{Record}
use Rattle.fmp_setup.specs.Setup.{Setup}
use Rattle.fmp_rules.specs.declared.machine.Wait.{Wait}
use Rattle.fmp_rules.specs.declared.machine.Wait.TheVariants as wait
use Rattle.fmp_law_balance.specs.Accepted.{is_accepted, accepted_value}
use Rattle.fmp_law_balance.specs.Waits.Asked.{OpenWait}
use Rattle.fmp_law_records.specs.Served.{Places, places_by, places_at_boot}
use Rattle.fmp_law_records.specs.Refusals.Meanings.{object_of}
use Rattle.fmp_law_records.specs.Effects.Losses.{values_reported, oldest}
use Rattle.fmp_law_records.specs.Effects.Releases.{next_sender}

-- a call that receives a value from a data queue where it is done at once
abbrev pub is_receive : Event → Bool
is_receive (event.Call p (call.Buffer (buffer.RcvDtq id))) = true
is_receive (event.Call p (call.Buffer (buffer.TrcvDtq id timeout))) = true
is_receive (event.Call p (call.Buffer (buffer.PrcvDtq id))) = true
is_receive other = false

abbrev pub value_of : Wait → Option ℤ
value_of (wait.Send d v) = Some v
value_of other = None

-- the value that a wait is to send
abbrev pub value_to_send : Option OpenWait → Option ℤ
value_to_send None = None
value_to_send (Some o) = value_of o.wait

-- the value that this task waits to send
abbrev pub sent_by : Places → Option Task → Option ℤ
sent_by x None = None
sent_by x (Some t) = value_to_send (x.waits t)

module _ (c : Setup) (records : List Record) where
  -- the oldest value of a data queue, or where it has none the one that the first sender in its queue waits to send
  abbrev pub received_from : Object → Option ℤ
  received_from d = let x : Places = places_by c records (places_at_boot c) in option_or (oldest (values_reported records d)) (sent_by x (next_sender c x d))

  -- no other event receives any
  abbrev pub received_reported : Event → Option ℤ
  received_reported (event.Call p (call.Buffer (buffer.RcvDtq id))) = received_from (object_of id)
  received_reported (event.Call p (call.Buffer (buffer.TrcvDtq id timeout))) = received_from (object_of id)
  received_reported (event.Call p (call.Buffer (buffer.PrcvDtq id))) = received_from (object_of id)
  received_reported other = None

-- a call that is done at once answers the value that is told
abbrev pub IsReceivedReported : Setup → List Record → Record → Type 0
IsReceivedReported c records r = is_receive r.event && is_accepted r.answer ≡ true → accepted_value r.answer ≡ received_reported c records r.event
