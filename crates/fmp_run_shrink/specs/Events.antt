-- What holds of a list of events that was read over a configuration, whatever its text.
use Rattle.std.specs.Prelude.{◌≤◌, All, vec_len}
use Rattle.std.specs.Global.{Vec}
use Rattle.fmp_calls.specs.Arguments.{EventInBits}
use Rattle.fmp_codes.specs.Records.{AreOn}
use Rattle.fmp_codes.specs.declared.records.Event.{Event}
use Rattle.fmp_setup.specs.Setup.{Setup}
use Rattle.fmp_text.specs.Limits.{most_events}

pub record IsAsRead (c : Setup) (events : Vec Event) : Type 0 where
  -- they are on the processors of the machine
  pub on : AreOn c.names.processors events.items
  -- their arguments are within the bits of their kinds
  pub in_bits : All EventInBits events.items
  -- they are no more than a list may have
  pub few : vec_len events ≤ most_events
