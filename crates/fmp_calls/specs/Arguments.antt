-- Which arguments are within the bits of their kinds.
use Rattle.std.specs.Prelude.{◌<◌, ◌^◌, List, [], ◌∷◌}
use Rattle.fmp_codes.specs.Records.{IsWithin}
use Rattle.fmp_codes.specs.declared.calls.Call.{Call}
use Rattle.fmp_codes.specs.declared.records.Event.{Event}
use Rattle.fmp_codes.specs.declared.records.Event.TheVariants as events
use Rattle.fmp_codes.specs.declared.kinds.Value.{Value}
use Rattle.fmp_codes.specs.declared.kinds.Value.TheVariants as values
use Rattle.fmp_calls.specs.Table.{values_of}

-- within 32 bits, or 64 where it is data
abbrev pub IsInBits : Value → Type 0
IsInBits (values.Number n) = IsWithin (2 ^ 31) n
IsInBits (values.Pattern bits) = bits < 2 ^ 32
IsInBits (values.Data value) = IsWithin (2 ^ 63) value
IsInBits (values.Mode mode) = Unit {0}

abbrev pub AreInBits : List Value → Type 0
AreInBits [] = Unit {0}
AreInBits (value ∷ values) = IsInBits value × AreInBits values

-- each argument of a call is within the bits of its kind
abbrev pub CallInBits : Call → Type 0
CallInBits call = AreInBits (values_of call)

abbrev pub EventInBits : Event → Type 0
EventInBits (events.Call p call) = CallInBits call
EventInBits (events.Tick p) = Unit {0}
EventInBits (events.Ipi p) = Unit {0}
